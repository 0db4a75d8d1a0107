use Rattle.std.proofs.Common.{All, IsSome, take}
use Rattle.std.specs.Ordering.{nat_cmp}
use Rattle.keyed.specs.Keyed.{at}
use Rattle.chip_core.specs.Slots.{host_entries}
use Rattle.chip_core.proofs.shape.are_held.Given as goal

abbrev pub invariant-loop-member : goal.invariant-loop-member
invariant-loop-member l = All (λ member. IsSome (at nat_cmp member.host (host_entries l.hosts))) (take l.member-index l.members)
