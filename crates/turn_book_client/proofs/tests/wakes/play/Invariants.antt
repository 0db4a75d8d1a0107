use Rattle.turn_book.specs.Passes.{IsPassOf}
use Rattle.turn_book.specs.Closing.{HoldsNothing}
use Rattle.turn_book_client.proofs.tests.wakes.play.Given as goal

abbrev pub invariant-loop-before : goal.invariant-loop-before
invariant-loop-before g l = record {
  book : IsPassOf l.book l.pass;
  free : HoldsNothing l.pass;
}
