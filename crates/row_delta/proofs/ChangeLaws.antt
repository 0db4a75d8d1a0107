-- What the changes between the rows of two states are to a commit.
use Rattle.std.proofs.Common.{◌≡◌}
use Rattle.chip_core.specs.Changes.{AreOldRows, changed_rows}
use Rattle.chip_core.specs.declared.changes.RowChanges.{RowChanges}
use Rattle.hw_undo.specs.Counts.{differing}
use Rattle.net_types.specs.Differ.{AscendRows, differ}
use Rattle.net_types.specs.Rows.{Rows}
use Rattle.row_change_laws.specs.Between.{AreRowChangesBetween, no_rows}
use Rattle.row_change_laws.specs.Made.{added_rows}
use Rattle.row_change_laws.proofs.BetweenLaws.{one_changes, rows_counted, rows_make, rows_old}
use Rattle.row_change_laws.proofs.MadeLaws.{rows_added}
use Rattle.std.specs.Prelude.{IfOk}
use Rattle.std.specs.declared.alloc.AllocError.{AllocError}
use Rattle.std.specs.declared.result.Result.{Result}
use Rattle.std.specs.declared.result.Result.TheVariants.{Ok, Err}

-- what holds of each result holds of this one
pub on_result : {A E : Type 0} {P Q : A → Type 0} (result : Result A E) → ((a : A) → P a → Q a) → IfOk result P → IfOk result Q
on_result (Ok a) leads is = leads a is
on_result (Err e) leads is = tt

pub none_ascend : AscendRows no_rows
none_ascend = record { l2 = tt; host = tt; group = tt; route = tt }
