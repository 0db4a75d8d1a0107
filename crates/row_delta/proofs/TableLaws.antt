-- Rows of states ascend, and changes of a table lead to the rows that were made.
use Rattle.std.proofs.Common.{◌≡◌, Bool, List, IfOk, sym, subst, ◌∙◌}
use Rattle.std.specs.declared.cmp.Ordering.{Ordering}
use Rattle.keyed.specs.Keyed.{Ascends}
use Rattle.net_types.specs.declared.table.HostKey.{HostKey}
use Rattle.net_types.specs.KeyOrder.{group_cmp}
use Rattle.chip_core.specs.ChangeLists.{AreGroupChanges, Change}
use Rattle.row_change_laws.specs.Between.{AreChangesBetween}
use Rattle.row_change_laws.proofs.ClosedChanges.{table_groups}
use Rattle.switch_model.specs.PlainState.{PlainState, empty}
use Rattle.switch_model.specs.Rows.{rows}

pub ascends_as : {K V : Type 0} (cmp : K → K → Ordering) (made list : List (K × V)) → made ≡ list → Ascends cmp list → Ascends cmp made
ascends_as {K} {V} cmp made list is asc = subst (λ (l : List (K × V)). Ascends cmp l) (sym is) asc

-- the changes of groups from no rows to those of a state
pub added_groups : (changes : List (Change (List HostKey) (List Bool))) (none : List (List HostKey × List Bool)) (m : PlainState) → none ≡ (rows empty).group → AreChangesBetween group_cmp changes none (rows m).group → AreGroupChanges changes
added_groups changes none m is between = table_groups changes empty m (subst (λ (l : List (List HostKey × List Bool)). AreChangesBetween group_cmp changes l (rows m).group) is between)
