use Rattle.std.proofs.Common.{◌≡◌, take, map}
use Rattle.chip_core.proofs.slots.names_of.Given as goal

abbrev pub invariant-loop-row : goal.invariant-loop-row
invariant-loop-row g l = l.names.items ≡ map (λ row. (g.V.Named.name row.1, row.0)) (take l.row-index l.rows)
