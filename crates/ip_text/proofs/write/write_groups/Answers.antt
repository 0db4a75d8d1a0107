use Rattle.std.proofs.Common.{◌++◌, ap, sym, ◌∙◌}
use Rattle.ip_text.specs.Printed.{group_text}
use Rattle.ip_text.proofs.JoinLaws.{row_more}
use Rattle.ip_text.proofs.WriteLaws.{wrote}
use Rattle.ip_text.proofs.write.write_groups.Goals as goal

pub loop-at-preserved : goal.loop-at-preserved
loop-at-preserved c = wrote _ _ _ _ _ c.loop-at.invariant c.in_ok-write_next_group.ensures.ok ∙ ap (λ l. c.args.text.now.items ++ l) (sym (row_more 58 group_text c.args.groups.now c.loop-at.at c.loop-at-test.true))
