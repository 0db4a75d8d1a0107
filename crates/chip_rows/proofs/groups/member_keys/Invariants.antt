use Rattle.std.proofs.Common.{◌≡◌, take}
use Rattle.chip_rows.specs.BySlot.{member_keys}
use Rattle.chip_rows.proofs.groups.member_keys.Given as goal

abbrev pub invariant-loop-member : goal.invariant-loop-member
invariant-loop-member l = l.hosts ≡ member_keys l.keys (take l.member-index l.members)
