-- What a check of a saved text finds.
use Rattle.std.specs.Prelude.{◌≡◌, ℕ, ◌++◌, codes, List, None, Ok, Some}
use Rattle.std.specs.Fmt.{decimal}
use Rattle.answer_forms.specs.AnswerText.{totals_text}
use Rattle.chip_core.specs.Chip.{IsImage, view_of}
use Rattle.chip_rows.specs.Difference.{first_differing}
use Rattle.net_types.specs.declared.table.Caps.{Caps}
use Rattle.net_types.specs.declared.table.Table.{Table}
use Rattle.net_types.specs.declared.table.Tables.{Tables}
use Rattle.run_outcome.specs.declared.refusal.SavedRefusal.{SavedRefusal}
use Rattle.run_outcome.specs.declared.refusal.SavedRefusal.TheVariants.{NotJson, BadShape, BadDigest, BadState, BadRows, ChipDiffers}
use Rattle.saved_state.specs.Contents.{Body, Contents, contents_of}
use Rattle.saved_state.specs.Reading.{HasBadDigest, HasBadState, IsUnshaped}
use Rattle.saved_state.specs.Texts.{IsJson, Says, digest_of}
use Rattle.serde_json.specs.Data.{Data}
use Rattle.switch_model.specs.Built.{built}
use Rattle.switch_model.specs.PlainState.{PlainState, empty}
use Rattle.switch_model.specs.Rows.{rows}
use Rattle.switch_model.specs.Sound.{acts_of}
use Rattle.switch_model.specs.Totals.{totals}
use Rattle.switch_model.specs.declared.record.Totals.{Totals}
use Rattle.offline_run.specs.declared.check.CheckFault.{CheckFault}
use Rattle.offline_run.specs.declared.check.CheckFault.TheVariants.{Refused, NoMemory}

-- the line with a version and counts
abbrev pub counts_line : ℕ → Totals → List ℕ
counts_line version counts = codes "ok version " ++ (decimal version ++ (codes " " ++ (totals_text counts ++ codes "\n")))

-- the line that tells of a state and its version
abbrev pub ok_line : ℕ → PlainState → List ℕ
ok_line version m = counts_line version (totals m)

-- the bytes are a saved text of these contents: of the form, with the right digest, and the acts that build the state are valid and lead to this one
pub record IsSavedText (bytes : List ℕ) (c : Contents) : Type 0 where
  pub body : Body
  pub says : Says bytes body (digest_of body)
  pub built : built empty (acts_of (contents_of body).state) ≡ Ok c.state
  pub version : c.version ≡ (contents_of body).version
  pub caps : c.caps ≡ (contents_of body).caps
  pub tables : c.tables ≡ (contents_of body).tables

-- a saved text, with tables that a chip may have, which show the rows of the state: no table differs
pub record IsTakenOver (bytes : List ℕ) (c : Contents) : Type 0 where
  pub text : IsSavedText bytes c
  pub image : IsImage c.caps c.tables
  pub shown : view_of c.tables ≡ rows c.state
  pub alike : first_differing (view_of c.tables) (rows c.state) ≡ None

-- a saved text, with tables that no chip may have
pub record HasBadRows (bytes : List ℕ) : Type 0 where
  pub contents : Contents
  pub text : IsSavedText bytes contents
  pub none : IsImage contents.caps contents.tables → ⊥

-- a saved text, with tables that a chip may have, and the table is the first that doesn't show the rows of the state
pub record HasOtherRows (bytes : List ℕ) (table : Table) : Type 0 where
  pub contents : Contents
  pub text : IsSavedText bytes contents
  pub image : IsImage contents.caps contents.tables
  pub differs : first_differing (view_of contents.tables) (rows contents.state) ≡ Some table

-- why bytes aren't taken over: the first test that fails
abbrev pub IsRefusedFor : List ℕ → SavedRefusal → Type 0
IsRefusedFor bytes NotJson = (d : Data) → IsJson bytes d → ⊥
IsRefusedFor bytes BadShape = IsUnshaped bytes
IsRefusedFor bytes BadDigest = HasBadDigest bytes
IsRefusedFor bytes (BadState reason) = HasBadState bytes reason
IsRefusedFor bytes BadRows = HasBadRows bytes
IsRefusedFor bytes (ChipDiffers table) = HasOtherRows bytes table

-- the line tells of the contents with which the bytes are taken over
pub record TellsOf (bytes line : List ℕ) : Type 0 where
  pub contents : Contents
  pub taken : IsTakenOver bytes contents
  pub is : line ≡ ok_line contents.version contents.state

-- the line tells of the state, whose rows the tables show, and a chip may have them
pub record TellsOfState (caps : Caps) (tables : Tables) (version : ℕ) (m : PlainState) (line : List ℕ) : Type 0 where
  pub image : IsImage caps tables
  pub shown : view_of tables ≡ rows m
  pub alike : first_differing (view_of tables) (rows m) ≡ None
  pub is : line ≡ ok_line version m

-- why a line doesn't tell of the state: no chip may have the tables, or the first that doesn't show the state's rows is that one
abbrev pub IsUntaken : Caps → Tables → PlainState → SavedRefusal → Type 0
IsUntaken caps tables m BadRows = IsImage caps tables → ⊥
IsUntaken caps tables m (ChipDiffers table) = IsImage caps tables × (first_differing (view_of tables) (rows m) ≡ Some table)
IsUntaken caps tables m _ = ⊥

-- the table is the first in which the tables don't show the state's rows
abbrev pub IsDiffering : Tables → PlainState → SavedRefusal → Type 0
IsDiffering tables m (ChipDiffers table) = first_differing (view_of tables) (rows m) ≡ Some table
IsDiffering tables m _ = ⊥

-- a fault that isn't want of memory is a refusal
abbrev pub OrNoMemory : (SavedRefusal → Type 0) → CheckFault → Type 0
OrNoMemory Is (Refused why) = Is why
OrNoMemory Is NoMemory = Unit {0}
