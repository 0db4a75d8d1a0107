-- The changes from no rows, as those from the rows of the state of nothing.
use Rattle.std.proofs.Common.{◌≡◌, refl, subst}
use Rattle.chip_core.specs.Changes.{AreOldRows, changed_rows}
use Rattle.chip_core.specs.declared.changes.RowChanges.{RowChanges}
use Rattle.core_laws.specs.Changes.{AreChanges}
use Rattle.hw_undo.specs.Counts.{differing}
use Rattle.net_types.specs.Closed.{IsClosed}
use Rattle.net_types.specs.Differ.{differ}
use Rattle.net_types.specs.Rows.{Rows}
use Rattle.row_change_laws.specs.Between.{no_rows}
use Rattle.switch_model.specs.Rows.{rows}
use Rattle.switch_state.specs.Plain.{plain}
use Rattle.switch_state.specs.StateView.{nothing}

nothing_has_none : no_rows ≡ rows (plain nothing)
nothing_has_none = refl

pub first_changes : (b : Rows) (changes : RowChanges) → AreOldRows changes no_rows → changed_rows changes no_rows ≡ b → IsClosed b → differing changes ≡ differ no_rows b → AreChanges (rows (plain nothing)) b changes
first_changes b changes old new closed count =
    let are : AreChanges no_rows b changes = record { old = old; new = new; closed = closed; count = count } in
    subst (λ (a : Rows). AreChanges a b changes) nothing_has_none are
