-- Changes between the rows of two states are closed, and those of groups are of groups.
use Rattle.std.proofs.Common.{◌≡◌, ◌≢◌, Bool, false, Option, None, Some, List, [], ◌∷◌, refl, sym, subst}
use Rattle.std.specs.List.{AllByRecursion, Contains, IsDistinct}
use Rattle.std.specs.List.Sorted.{IsStrictlySortedBy}
use Rattle.std.specs.Ordering.{eq_by_cmp}
use Rattle.std.specs.declared.cmp.Ordering.TheVariants.{Less}
use Rattle.keyed.specs.Keyed.{at}
use Rattle.keyed.specs.Members.{contains_first, contains_later}
use Rattle.net_types.specs.Closed.{IsClosed, IsGroup}
use Rattle.net_types.specs.KeyOrder.{host_cmp, group_cmp}
use Rattle.net_types.specs.declared.table.HostKey.{HostKey}
use Rattle.chip_core.specs.ChangeLists.{AreGroupChanges, Change, HasMarks, IsGroupChange}
use Rattle.chip_core.specs.Changes.{changed_rows}
use Rattle.chip_core.specs.declared.changes.RowChanges.{RowChanges}
use Rattle.switch_laws.proofs.ClosedLaws.{rows-groups, rows-ascend, rows-closed}
use Rattle.switch_model.specs.PlainState.{ArePartsInOrder, PlainState}
use Rattle.switch_model.specs.Rows.{rows}
use Rattle.row_change_laws.specs.Between.{AreChangesBetween, AreRowChangesBetween}
use Rattle.row_change_laws.proofs.BetweenLaws.{rows_make}

pub closed_changes : (changes : RowChanges) (m n : PlainState) → ArePartsInOrder m → ArePartsInOrder n → AreRowChangesBetween changes (rows m) (rows n) → IsClosed (changed_rows changes (rows m))
closed_changes changes m n is_m is_n between = subst IsClosed (sym (rows_make changes (rows m) (rows n) (rows-ascend m is_m) (rows-ascend n is_n) between)) (rows-closed n is_n)

-- the changes of groups
none_above : (k : HostKey) (ks : List HostKey) → AllByRecursion (λ y. host_cmp k y ≡ Less) ks → AllByRecursion (λ y. eq_by_cmp host_cmp k y ≡ false) ks
none_above k [] all = tt
none_above k (x ∷ xs) all = (rw all.0 refl, none_above k xs all.1)

once : (ks : List HostKey) → IsStrictlySortedBy host_cmp ks → IsDistinct (eq_by_cmp host_cmp) ks
unfolding IsStrictlySortedBy IsDistinct
once [] asc = tt
once (k ∷ ks) asc = (none_above k ks asc.0, once ks asc.1)

has_marks : (m : PlainState) (keys : List HostKey) (o : Option (List Bool)) → at group_cmp keys (rows m).group ≡ o → HasMarks keys o
has_marks m keys None is = tt
has_marks m keys (Some marks) is = ((rows-groups m).every keys marks is).marked

-- a key of the changes is a group of one of the two states
a_group : (m n : PlainState) (keys : List HostKey) (o p : Option (List Bool)) → at group_cmp keys (rows m).group ≡ o → at group_cmp keys (rows n).group ≡ p → o ≢ p → (marks : List Bool) × IsGroup keys marks
a_group m n keys None None a b differs = absurd (differs refl)
a_group m n keys None (Some marks) a b differs = (marks, (rows-groups n).every keys marks b)
a_group m n keys (Some marks) p a b differs = (marks, (rows-groups m).every keys marks a)

group_change : (m n : PlainState) (c : Change (List HostKey) (List Bool)) → at group_cmp c.0 (rows m).group ≡ c.1 → at group_cmp c.0 (rows n).group ≡ c.2 → c.1 ≢ c.2 → IsGroupChange c
group_change m n c a b differs =
    let group = (a_group m n c.0 c.1 c.2 a b differs).1 in
    record { length = group.size; once = once c.0 group.ascends; old = has_marks m c.0 c.1 a; new = has_marks n c.0 c.2 b }

all_of : {A : Type 0} (P : A → Type 0) (xs : List A) → ((x : A) → Contains xs x → P x) → AllByRecursion P xs
all_of P [] each = tt
all_of P (x ∷ xs) each = (each x (contains_first x xs), all_of P xs (λ y has. each y (contains_later x xs y has)))

pub table_groups : (cs : List (Change (List HostKey) (List Bool))) (m n : PlainState) → AreChangesBetween group_cmp cs (rows m).group (rows n).group → AreGroupChanges cs
table_groups cs m n between = all_of IsGroupChange cs (λ c has. let facts = between.each c has in group_change m n c facts.0 facts.1 facts.2)

pub group_changes : (changes : RowChanges) (m n : PlainState) → AreRowChangesBetween changes (rows m) (rows n) → AreGroupChanges changes.group
group_changes changes m n between = table_groups changes.group m n between.group
