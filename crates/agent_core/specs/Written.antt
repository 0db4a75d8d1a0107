-- What an attempt to write rows to a chip makes of it.
use Rattle.std.specs.Prelude.{◌≡◌, ◌≤◌, ◌+◌, ◌*◌, ℕ, None, Some}
use Rattle.chip_core.specs.Changes.{changed_rows}
use Rattle.chip_core.specs.Chip.{view_of}
use Rattle.chip_core.specs.declared.changes.RowChanges.{RowChanges}
use Rattle.core_laws.specs.Audience.{AudienceView, WereTold}
use Rattle.hw_undo.specs.Counts.{differing}
use Rattle.net_types.specs.Capacity.{over}
use Rattle.net_types.specs.declared.table.Caps.{Caps}
use Rattle.net_types.specs.declared.table.Table.{Table}
use Rattle.net_types.specs.declared.table.Tables.{Tables}
use Rattle.switch_state.specs.StateView.{StateView}

-- the changed rows fit and are on the chip, after at most two writes for each that differs; and the observers were told of the state
pub record WasWritten (changes : RowChanges) (s : StateView) (caps : Caps) (old new : Tables) (before after : ℕ) (a b : AudienceView) : Type 0 where
  pub fits : None ≡ over (changed_rows changes (view_of old)) caps
  pub view : view_of new ≡ changed_rows changes (view_of old)
  pub writes : after ≤ before + 2 * differing changes
  pub told : WereTold s a b

-- that table is the first that is too small for the changed rows; the chip's tables are as before, after at most four writes for each that differs; and nobody was told
pub record WasUndone (t : Table) (changes : RowChanges) (caps : Caps) (old new : Tables) (before after : ℕ) (a b : AudienceView) : Type 0 where
  pub full : Some t ≡ over (changed_rows changes (view_of old)) caps
  pub raw : new ≡ old
  pub writes : after ≤ before + 4 * differing changes
  pub audience : b ≡ a
