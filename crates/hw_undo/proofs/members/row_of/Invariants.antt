use Rattle.std.proofs.Common.{◌≡◌, length, take}
use Rattle.chip_core.specs.Chip.{marks_of}
use Rattle.net_types.specs.Groups.{group_key_of}
use Rattle.hw_undo.proofs.members.row_of.Given as goal

abbrev pub invariant-loop-place : goal.invariant-loop-place
invariant-loop-place l = record {
  long : length l.members ≡ 64;
  hosts : group_key_of (take l.place l.members) ≡ take l.place l.slots;
  marks : marks_of (take l.place l.members) ≡ take l.place l.marks;
}
