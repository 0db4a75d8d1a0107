use Rattle.std.proofs.Common.{◌≡◌}
use Rattle.turn_book.specs.Passes.{IsPassOf, IsSameCaller}
use Rattle.turn_book.specs.Closing.{HoldsNothing}
use Rattle.turn_book_client.proofs.threads.settle_all.Given as goal

abbrev pub invariant-loop : goal.invariant-loop
invariant-loop g l = record {
  book : IsPassOf l.book l.pass;
  caller : IsSameCaller l.initial.pass l.pass;
  free : HoldsNothing l.pass;
  mine : l.pass.mine ≡ l.initial.pass.mine;
}
