use Rattle.std.proofs.Common.{nat_eq, drop}
use Rattle.std.specs.List.{IsDistinct}
use Rattle.chip_core.specs.Slots.{hosts_of}
use Rattle.chip_core.proofs.shape.are_distinct.Given as goal

abbrev pub invariant-loop-place : goal.invariant-loop-place
invariant-loop-place l = record {
  whole : IsDistinct nat_eq (hosts_of (drop l.place l.members)) → IsDistinct nat_eq (hosts_of l.members);
  rest : IsDistinct nat_eq (hosts_of l.members) → IsDistinct nat_eq (hosts_of (drop l.place l.members));
}
