use Rattle.std.proofs.Common.{◌++◌, ◌∷◌, [], sym, subst}
use Rattle.net_types.specs.Derived.{group-derived}
use Rattle.net_types.specs.KeyOrder.{group_cmp}
use Rattle.chip_core.specs.ChangeLists.{IsAscending}
use Rattle.chip_core.proofs.changes.GroupChangeList.push.Goals as goal

pub push-requires : goal.push-requires
push-requires c =
    let ascending = subst (λ l. IsAscending group_cmp (l ++ c.args.change ∷ [])) (sym c.self.view_is) c.requires.ascending in
    subst (λ cmp. IsAscending cmp (c.self.inside.changes ++ c.args.change ∷ [])) (sym group-derived) ascending
