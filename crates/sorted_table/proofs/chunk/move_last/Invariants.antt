use Rattle.std.proofs.Common.{◌≡◌, ◌≤◌, ◌+◌, ◌++◌, reverse, vec_capacity, vec_len}
use Rattle.sorted_table.proofs.chunk.move_last.Given as goal

abbrev pub invariant-loop : goal.invariant-loop
invariant-loop g l = record {
  items : l.list.items ++ reverse l.other.items ≡ l.initial.list.items ++ reverse l.initial.other.items;
  left : vec_len l.list + l.counter ≡ vec_len l.initial.list;
  moved : vec_len l.other ≡ vec_len l.initial.other + l.counter;
  within : l.counter ≤ l.count;
  list_room : vec_capacity l.list ≡ vec_capacity l.initial.list;
  other_room : vec_capacity l.initial.other ≤ vec_capacity l.other;
}
