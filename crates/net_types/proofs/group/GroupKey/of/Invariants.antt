use Rattle.std.proofs.Common.{◌≡◌, length, take}
use Rattle.net_types.specs.Groups.{group_key_of}
use Rattle.net_types.proofs.group.GroupKey.of.Given as goal

abbrev pub invariant-loop-place : goal.invariant-loop-place
invariant-loop-place l = (length l.slots ≡ 64) × (take l.place l.slots ≡ group_key_of (take l.place l.members))
