-- Saved texts.
use Rattle.std.specs.Prelude.{◌≡◌, ℕ, true, List, Some}
use Rattle.std.specs.Str.{IsUtf8}
use Rattle.serde_json.specs.Data.{Data}
use Rattle.serde_json.specs.Read.{read}
use Rattle.serde_json.specs.Written.{compact_text}
use Rattle.net_types.specs.declared.table.Caps.{Caps}
use Rattle.net_types.specs.declared.table.Tables.{Tables}
use Rattle.switch_model.specs.PlainState.{PlainState}
use Rattle.saved_state.specs.Contents.{Body, IsLegal, body_json, contents_of, first, saved_json}
use Rattle.saved_state.specs.Digest.{hex_digest, is_digest}

-- the digest of the compact text of the body
abbrev pub digest_of : Body → List ℕ
digest_of b = hex_digest (compact_text (body_json b))

-- the body that is written of a state with its version, a chip's tables and its capacities
abbrev pub body_to_save : PlainState → ℕ → Tables → Caps → Body
body_to_save m version tables caps = first (record { caps = caps; tables = tables; state = m; version = version })

-- the compact text of that body and its digest
abbrev pub saved_text : PlainState → ℕ → Tables → Caps → List ℕ
saved_text m version tables caps = let b = body_to_save m version tables caps in compact_text (saved_json b (digest_of b))

-- the bytes are a text of JSON with that value
abbrev pub IsJson : List ℕ → Data → Type 0
IsJson bytes d = IsUtf8 bytes × (read bytes ≡ Some d)

-- the value is of the form
pub record HasShape (d : Data) (b : Body) (digest : List ℕ) : Type 0 where
  pub json : saved_json b digest ≡ d
  pub legal : IsLegal (contents_of b)
  pub hex : is_digest digest ≡ true

-- the bytes are JSON of the form
pub record Says (bytes : List ℕ) (b : Body) (digest : List ℕ) : Type 0 where
  pub value : Data
  pub json : IsJson bytes value
  pub shape : HasShape value b digest
