use Rattle.std.proofs.Common.{◌≡◌, ◌-◌, ◌++◌}
use Rattle.turn_book.specs.Passes.{new_passes}
use Rattle.agent_shared.proofs.passes.passes_of.Given as goal

abbrev pub invariant-loop-number : goal.invariant-loop-number
invariant-loop-number g l = record {
  left : l.seats.items ≡ new_passes l.book l.number (l.callers - l.number);
  all : l.passes.items ++ l.seats.items ≡ new_passes l.book 0 l.callers;
}
