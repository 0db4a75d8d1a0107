use Rattle.turn_book.specs.Passes.{IsPassOf}
use Rattle.turn_book.specs.Closing.{HoldsNothing}
use Rattle.turn_book_bench.proofs.turns.take_turns.Given as goal

abbrev pub invariant-loop-time : goal.invariant-loop-time
invariant-loop-time g l = record {
  book : IsPassOf l.book l.pass;
  free : HoldsNothing l.pass;
}
