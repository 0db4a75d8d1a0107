use Rattle.std.proofs.Common.{◌≡◌, ◌++◌, vec_len}
use Rattle.std.specs.Vec.Iter.{into_iter_items}
use Rattle.chip_core.specs.Taken.{AreFree, taken}
use Rattle.chip_core.proofs.slots.take_slots.Given as goal

abbrev pub invariant-loop-slot : goal.invariant-loop-slot
invariant-loop-slot g l = record {
  rows : taken 0 l.slots.items ++ into_iter_items l.slot-iterator ≡ l.fn.rows.items;
  free : AreFree l.slots.items l.free.rows;
  count : vec_len l.slots ≡ vec_len l.initial.slots;
  room : l.free.capacity ≡ l.initial.free.capacity;
  can : (goal.iterator-loop-slot g).can_next l.slot-iterator;
  finite : (goal.iterator-loop-slot g).is_finite l.slot-iterator;
}
