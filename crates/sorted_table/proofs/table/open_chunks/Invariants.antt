use Rattle.std.proofs.Common.{◌≡◌, ◌≤◌, vec_capacity, vec_len}
use Rattle.sorted_table.specs.Chunks.{AreEmpty}
use Rattle.sorted_table.proofs.table.open_chunks.Given as goal

abbrev pub invariant-loop : goal.invariant-loop
invariant-loop g l = record {
  empty : AreEmpty l.chunks.items;
  count : vec_len l.chunks ≡ l.counter;
  within : l.counter ≤ l.count;
  room : l.room ≤ vec_capacity l.chunks;
}
