-- The changes that a commit takes.
use Rattle.std.proofs.Common.{◌≡◌, sym, ap, subst, ◌∙◌}
use Rattle.chip_core.specs.Changes.{AreOldRows, changed_rows}
use Rattle.chip_core.specs.Chip.{view_of}
use Rattle.chip_core.specs.declared.changes.RowChanges.{RowChanges}
use Rattle.net_types.specs.Closed.{IsClosed}
use Rattle.net_types.specs.Rows.{Rows}
use Rattle.net_types.specs.declared.table.Tables.{Tables}
use Rattle.row_change_laws.proofs.BetweenLaws.{rows_counted, rows_make, rows_old}
use Rattle.row_change_laws.specs.Between.{AreRowChangesBetween}
use Rattle.switch_laws.proofs.ClosedLaws.{rows-closed, rows-ascend}
use Rattle.switch_model.specs.PlainState.{ArePartsInOrder, PlainState}
use Rattle.switch_model.specs.Rows.{rows}
use Rattle.core_laws.specs.Changes.{AreChanges}

pub old_there : (a b : Rows) (raw : Tables) (changes : RowChanges) → view_of raw ≡ a → AreChanges a b changes → AreOldRows changes (view_of raw)
old_there a b raw changes view are = subst (λ (x : Rows). AreOldRows changes x) (sym view) are.old

pub new_there : (a b : Rows) (raw : Tables) (changes : RowChanges) → view_of raw ≡ a → AreChanges a b changes → changed_rows changes (view_of raw) ≡ b
new_there a b raw changes view are = ap (λ (x : Rows). changed_rows changes x) view ∙ are.new

pub closed_there : (a b : Rows) (raw : Tables) (changes : RowChanges) → view_of raw ≡ a → AreChanges a b changes → IsClosed (changed_rows changes (view_of raw))
closed_there a b raw changes view are = subst IsClosed (sym (new_there a b raw changes view are)) are.closed

-- the changes between the rows of two states are such
pub changes_are : (changes : RowChanges) (m n : PlainState) → ArePartsInOrder m → ArePartsInOrder n → AreRowChangesBetween changes (rows m) (rows n) → AreChanges (rows m) (rows n) changes
changes_are changes m n old_order new_order between = record {
  old = rows_old changes (rows m) (rows n) between;
  new = rows_make changes (rows m) (rows n) (rows-ascend m old_order) (rows-ascend n new_order) between;
  closed = rows-closed n new_order;
  count = rows_counted changes (rows m) (rows n) between;
}
