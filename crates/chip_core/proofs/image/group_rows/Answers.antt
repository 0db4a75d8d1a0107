use Rattle.std.proofs.Common.{◌++◌, ◌∷◌, [], ℕ, List, length, sym, ap, ◌∙◌, subst}
use Rattle.net_types.specs.Groups.{IsGroupLength}
use Rattle.net_types.specs.declared.group.Member.{Member}
use Rattle.chip_core.proofs.Members.{all_at, next_taken}
use Rattle.chip_core.proofs.image.group_rows.Goals as goal

pub push_group-requires : goal.push_group-requires
push_group-requires c =
    let long = all_at (λ (list : ℕ × List Member). IsGroupLength (length list.1)) c.args.lists.now c.loop-list.list-index c.list-item.result c.loop-list-test.true c.list-item.is c.requires in
    subst (λ (members : List Member). IsGroupLength (length members)) (sym c.as_slice.ensures) long

pub loop-list-preserved : goal.loop-list-preserved
loop-list-preserved c = c.in_ok-push_group.ensures ∙ ap (λ (members : List Member). c.loop-list.rows.items ++ (c.list-item.result.0, members) ∷ []) c.as_slice.ensures ∙ next_taken c.loop-list.rows.items c.args.lists.now c.loop-list.list-index c.list-item.result c.loop-list-test.true c.list-item.is c.loop-list.invariant
