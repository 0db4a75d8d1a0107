use Rattle.std.proofs.Common.{◌≡◌, ◌+◌, ◌≤◌, ◌++◌, All, vec_len, vec_capacity}
use Rattle.turn_book.specs.Closing.{HoldsNothing}
use Rattle.agent_shared.proofs.passes.seats_of.Given as goal

abbrev pub invariant-loop-seats : goal.invariant-loop-seats
invariant-loop-seats g l = record {
  all : l.seats.items ++ l.passes.items ≡ l.fn.passes.items;
  room : vec_len l.seats + vec_len l.passes ≤ vec_capacity l.seats;
  free : All (λ p. HoldsNothing p) l.seats.items;
}

abbrev pub decreases-loop-seats : goal.decreases-loop-seats
decreases-loop-seats g l = vec_len l.passes
