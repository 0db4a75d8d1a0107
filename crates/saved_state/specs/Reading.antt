-- What reading a saved text answers: the first test that fails.
use Rattle.std.specs.Prelude.{◌≡◌, ◌≢◌, ℕ, List, Result, Ok, Err}
use Rattle.serde_json.specs.Data.{Data}
use Rattle.net_types.specs.declared.table.Caps.{Caps}
use Rattle.net_types.specs.declared.table.Tables.{Tables}
use Rattle.switch_model.specs.declared.verdict.Reason.{Reason}
use Rattle.switch_model.specs.PlainState.{PlainState, empty}
use Rattle.switch_model.specs.Sound.{IsSound, acts_of}
use Rattle.switch_model.specs.Built.{built}
use Rattle.switch_state.specs.Plain.{plain}
use Rattle.switch_state.specs.StateView.{no_entries}
use Rattle.state_update.specs.Made.{AreBornAt, AreMadeAt}
use Rattle.saved_state.specs.declared.fault.SavedFault.{SavedFault}
use Rattle.saved_state.specs.declared.fault.SavedFault.TheVariants.{NotJson, BadShape, BadDigest, BadState, NoMemory}
use Rattle.saved_state.specs.declared.saved.Saved.{Saved}
use Rattle.saved_state.specs.Contents.{Body, Contents, contents_of}
use Rattle.saved_state.specs.Texts.{HasShape, IsJson, Says, digest_of}

-- JSON, and of no body with a digest
pub record IsUnshaped (bytes : List ℕ) : Type 0 where
  pub value : Data
  pub json : IsJson bytes value
  pub none : (b : Body) (digest : List ℕ) → HasShape value b digest → ⊥

-- of the form, with another digest
pub record HasBadDigest (bytes : List ℕ) : Type 0 where
  pub body : Body
  pub digest : List ℕ
  pub says : Says bytes body digest
  pub other : digest ≢ digest_of body

-- of the form with the right digest, and the first act that is refused has that reason
pub record HasBadState (bytes : List ℕ) (reason : Reason) : Type 0 where
  pub body : Body
  pub says : Says bytes body (digest_of body)
  pub index : ℕ
  pub refused : built empty (acts_of (contents_of body).state) ≡ Err (index, reason)

-- what the contents say stands in what was saved: the state that their acts build, which is sound, with every node and entry made at their version
pub record Holds (c : Contents) (saved : Saved) : Type 0 where
  pub state : built empty (acts_of c.state) ≡ Ok (plain saved.state)
  pub sound : IsSound (plain saved.state)
  pub version : saved.state.version ≡ c.version
  pub fibs : saved.state.fibs ≡ no_entries
  pub made : AreMadeAt c.version saved.state
  pub born : AreBornAt c.version saved.state
  pub caps : saved.caps ≡ c.caps
  pub tables : saved.tables ≡ c.tables

-- all is well, and this was saved
pub record IsSaved (bytes : List ℕ) (saved : Saved) : Type 0 where
  pub body : Body
  pub says : Says bytes body (digest_of body)
  pub holds : Holds (contents_of body) saved

-- each answer, exactly where its test is the first that fails
abbrev pub Reads : List ℕ → Result Saved SavedFault → Type 0
Reads bytes (Ok saved) = IsSaved bytes saved
Reads bytes (Err NotJson) = (d : Data) → IsJson bytes d → ⊥
Reads bytes (Err BadShape) = IsUnshaped bytes
Reads bytes (Err BadDigest) = HasBadDigest bytes
Reads bytes (Err (BadState reason)) = HasBadState bytes reason
Reads bytes (Err NoMemory) = Unit {0}

-- whatever a reader answers, it is want of memory, or the state with its version, the capacities and the tables
abbrev pub ReadsBack : PlainState → ℕ → Tables → Caps → Result Saved SavedFault → Type 0
ReadsBack m version tables caps (Ok saved) = (plain saved.state ≡ m) × (saved.state.version ≡ version) × (saved.tables ≡ tables) × (saved.caps ≡ caps)
ReadsBack m version tables caps (Err e) = e ≡ NoMemory

-- why bytes are no JSON
abbrev pub NotReadFor : List ℕ → SavedFault → Type 0
NotReadFor bytes NotJson = (d : Data) → IsJson bytes d → ⊥
NotReadFor bytes BadShape = ⊥
NotReadFor bytes BadDigest = ⊥
NotReadFor bytes (BadState reason) = ⊥
NotReadFor bytes NoMemory = Unit {0}

-- what contents are restored to
abbrev pub Restores : Contents → Result Saved SavedFault → Type 0
Restores c (Ok saved) = Holds c saved
Restores c (Err NotJson) = ⊥
Restores c (Err BadShape) = ⊥
Restores c (Err BadDigest) = ⊥
Restores c (Err (BadState reason)) = (index : ℕ) × (built empty (acts_of c.state) ≡ Err (index, reason))
Restores c (Err NoMemory) = Unit {0}

-- the same fault, or the same that was saved
abbrev pub SameAnswer : Result Saved SavedFault → Result Saved SavedFault → Type 0
SameAnswer (Ok a) (Ok b) = (plain a.state ≡ plain b.state) × (a.state.version ≡ b.state.version) × (a.tables ≡ b.tables) × (a.caps ≡ b.caps)
SameAnswer (Ok a) (Err f) = ⊥
SameAnswer (Err e) (Ok b) = ⊥
SameAnswer (Err e) (Err f) = e ≡ f
