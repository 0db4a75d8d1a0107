use Rattle.std.proofs.Common.{◌≡◌, ◌++◌, take}
use Rattle.sorted_table.specs.Chunks.{joined, parts}
use Rattle.sorted_table.proofs.table.copy_rows.Given as goal

abbrev pub invariant-loop-chunk : goal.invariant-loop-chunk
invariant-loop-chunk g l = l.rows.items ≡ l.initial.rows.items ++ joined (parts (take l.chunk-index l.chunks))
