-- Changes that a core asks its chip for.
use Rattle.std.specs.Prelude.{◌≡◌}
use Rattle.chip_core.specs.Changes.{AreOldRows, changed_rows}
use Rattle.chip_core.specs.declared.changes.RowChanges.{RowChanges}
use Rattle.hw_undo.specs.Counts.{differing}
use Rattle.net_types.specs.Closed.{IsClosed}
use Rattle.net_types.specs.Differ.{differ}
use Rattle.net_types.specs.Rows.{Rows}

-- the changes lead from the first rows to the second, list only what differs, and leave nothing that leads nowhere
pub record AreChanges (a b : Rows) (changes : RowChanges) : Type 0 where
  pub old : AreOldRows changes a
  pub new : changed_rows changes a ≡ b
  pub closed : IsClosed b
  pub count : differing changes ≡ differ a b
