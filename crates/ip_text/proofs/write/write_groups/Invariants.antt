use Rattle.std.proofs.Common.{◌≡◌, ◌++◌, take}
use Rattle.ip_text.specs.Printed.{group_text}
use Rattle.ip_text.specs.Rows.{row_text}
use Rattle.ip_text.proofs.write.write_groups.Given as goal

abbrev pub invariant-loop-at : goal.invariant-loop-at
invariant-loop-at l = l.text.items ≡ l.initial.text.items ++ row_text 58 group_text (take l.at l.groups)
