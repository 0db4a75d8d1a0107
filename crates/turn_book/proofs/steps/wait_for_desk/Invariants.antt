use Rattle.std.proofs.Common.{◌≡◌}
use Rattle.turn_book.specs.Steps.{Waited, hand_of}
use Rattle.turn_book.proofs.steps.wait_for_desk.Given as goal

abbrev pub invariant-loop : goal.invariant-loop
invariant-loop g l = record {
  table : l.seat.table_id ≡ l.initial.seat.table_id;
  hand : l.seat.me.1 ≡ hand_of l.seat.me.0.desk_turn l.seat.me.0.chip_turn;
  waits : Waited l.initial.seat.me.0 l.seat.me.0;
}
