use Rattle.std.proofs.Common.{◌≡◌, ◌≤◌, [], vec_len}
use Rattle.chip_core.specs.Taken.{AreFree, taken}
use Rattle.chip_core.proofs.slots.empty_slots.Given as goal

abbrev pub invariant-loop-slot : goal.invariant-loop-slot
invariant-loop-slot g l = record {
  none : taken 0 l.slots.items ≡ [];
  free : AreFree l.slots.items l.free.rows;
  count : vec_len l.slots ≡ l.slot;
  within : l.slot ≤ l.count;
  room : l.free.capacity ≡ l.initial.free.capacity;
}
