use Rattle.std.proofs.Common.{◌≡◌, ◌++◌, map}
use Rattle.switch_model.specs.Round.{entry_of}
use Rattle.run_judge.proofs.entries.entries_with.Given as goal

abbrev pub invariant-loop-item : goal.invariant-loop-item
invariant-loop-item l = l.entries ++ map (entry_of l.version) l.item-iterator.rest.items ≡ map (entry_of l.fn.version) l.fn.judged.items
