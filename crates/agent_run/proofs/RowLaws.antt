-- The rows of a core's chip.
use Rattle.std.proofs.Common.{◌≡◌, Result, Ok, Err, sym, subst}
use Rattle.std.specs.Prelude.{IfOk}
use Rattle.chip_core.specs.Chip.{IsChip, view_of}
use Rattle.chip_core.specs.ViewLaws.{sorted-view}
use Rattle.keyed.specs.Keyed.{Ascends}
use Rattle.net_types.specs.declared.table.Caps.{Caps}
use Rattle.net_types.specs.declared.table.Tables.{Tables}
use Rattle.net_types.specs.KeyOrder.{group_cmp}
use Rattle.net_types.specs.Rows.{Rows}

-- its groups ascend
pub groups_ascend : {E : Type 0} (caps : Caps) (raw tables : Tables) (r : Result Rows E) → IsChip caps raw → tables ≡ raw → IfOk r (λ rows. rows ≡ view_of tables) → IfOk r (λ rows. Ascends group_cmp rows.group)
groups_ascend caps raw tables (Ok rows) chip same is = subst (λ (x : Rows). Ascends group_cmp x.group) (sym is) (sorted-view tables (subst (IsChip caps) (sym same) chip).rows).group
groups_ascend caps raw tables (Err e) chip same is = tt
