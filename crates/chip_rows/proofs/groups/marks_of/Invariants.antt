use Rattle.std.proofs.Common.{◌≡◌, take}
use Rattle.chip_core.specs.Chip.{marks_of}
use Rattle.chip_rows.proofs.groups.marks_of.Given as goal

abbrev pub invariant-loop-member : goal.invariant-loop-member
invariant-loop-member l = l.marks ≡ marks_of (take l.member-index l.members)
