use Rattle.std.proofs.Common.{◌∙◌}
use Rattle.chip_rows.proofs.SameLaws.{hosts_same, marks_same, tested_as}
use Rattle.chip_rows.proofs.compare.are_groups_same.Goals as goal

pub returns : goal.returns
returns c = c.eq.ensures ∙ tested_as _ _ _ _ c.args.a.now c.args.b.now hosts_same marks_same
