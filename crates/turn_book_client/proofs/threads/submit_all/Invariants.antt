use Rattle.std.proofs.Common.{◌≡◌, ◌+◌, length}
use Rattle.turn_book.specs.Passes.{IsPassOf, IsSameCaller}
use Rattle.turn_book.specs.Closing.{HoldsNothing}
use Rattle.turn_book_client.proofs.threads.submit_all.Given as goal

abbrev pub invariant-loop-number : goal.invariant-loop-number
invariant-loop-number g l = record {
  book : IsPassOf l.book l.pass;
  caller : IsSameCaller l.initial.pass l.pass;
  free : HoldsNothing l.pass;
  count : length l.pass.mine ≡ length l.initial.pass.mine + l._number;
}
