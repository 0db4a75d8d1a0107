use Rattle.std.proofs.Common.{◌≡◌, ◌++◌, ◌-◌, drop, length}
use Rattle.report_text.specs.RowText.{members_text}
use Rattle.report_text.proofs.tables.write_members.Given as goal

abbrev pub invariant-loop-place : goal.invariant-loop-place
invariant-loop-place l = l.out ++ members_text (drop l.place l.hosts) (drop l.place l.marks) ≡ l.fn.out ++ members_text l.hosts l.marks

abbrev pub decreases-loop-place : goal.decreases-loop-place
decreases-loop-place l = length l.hosts - l.place
