use Rattle.std.proofs.Common.{◌≡◌, ◌++◌, map}
use Rattle.observer_kinds.specs.Changes.{part_change, part_changes}
use Rattle.observer_kinds.proofs.listing.push_part.Given as goal

abbrev pub invariant-loop-change : goal.invariant-loop-change
invariant-loop-change g l = l.list ++ map (part_change l.part) l.change-iterator ≡ l.fn.list ++ part_changes l.part l.old.entries l.new.entries
