use Rattle.std.proofs.Common.{All, ℕ, List, refl, subst}
use Rattle.std.proofs.lemmas.List.{take_all}
use Rattle.net_types.specs.declared.group.Member.{Member}
use Rattle.chip_core.specs.Slots.{Groups}
use Rattle.chip_core.specs.Tables.{IsGroupRow}
use Rattle.chip_core.proofs.Members.{all_more}
use Rattle.chip_core.proofs.shape.are_group_rows.Goals as goal

pub loop-group-preserved : goal.loop-group-preserved
loop-group-preserved c =
    let group = c.is_group_row.ensures.0 c.if-not-is_group_row.false in
    all_more (λ (group : ℕ × List Member). IsGroupRow group.1) c.args.groups.now c.loop-group.group-index c.group-item.result c.loop-group-test.true c.group-item.is (subst IsGroupRow c.as_slice.ensures group) c.loop-group.invariant

pub returns : goal.returns
returns c = ((λ h. subst (λ (l : Groups). All (λ group. IsGroupRow group.1) l) (take_all c.loop-group.group-index c.args.groups.now c.loop-group-test.false) c.loop-group.invariant), (λ h. refl))
