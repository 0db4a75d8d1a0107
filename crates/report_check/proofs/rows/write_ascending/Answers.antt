use Rattle.std.proofs.Common.{refl, subst, ◌∙◌}
use Rattle.keyed.specs.Keyed.{Ascends}
use Rattle.net_types.specs.Derived.{group-derived}
use Rattle.net_types.specs.KeyOrder.{group_cmp}
use Rattle.report_check.proofs.rows.write_ascending.Goals as goal

pub write_rows-requires : goal.write_rows-requires
write_rows-requires c = record { groups = subst (λ rows. Ascends group_cmp rows) (c.as_slice.ensures ∙ c.group.ensures) (subst (λ cmp. Ascends cmp c.as_slice.result.now) group-derived (c.in-true.ensures.0 refl)) }
