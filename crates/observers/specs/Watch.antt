-- What contracts see of an observer.
use Rattle.std.specs.Prelude.{◌≡◌, ◌≢◌, ◌≤◌, ◌+◌, ◌^◌, ◌-◌, ℕ, min, length, Bool, true, Result, Ok, Err}
use Rattle.std.specs.declared.alloc.AllocError.{AllocError}
use Rattle.switch_model.specs.declared.record.Totals.{Totals}
use Rattle.switch_model.specs.Totals.{counted, totals}
use Rattle.switch_state.specs.Plain.{fib_entries, plain}
use Rattle.switch_state.specs.StateView.{StateView}

-- where an observer stands, how often it refused, and whether it is sure
pub record Watch : Type 0 where
  pub version : ℕ
  pub totals : Totals
  pub refusals : ℕ
  pub sure : Bool

-- the counts of the state's own maps, that of the FIB's map included
abbrev pub counts_of : StateView → Totals
counts_of s = record (totals (plain s)) { fib = counted (length (fib_entries s)) }

-- a count rose, or stands at its greatest value
abbrev pub Rose : ℕ → ℕ → Type 0
Rose before now = min (before + 1) (2 ^ 64 - 1) ≤ now

-- it stands at the state
pub record StandsAt (s : StateView) (w : Watch) : Type 0 where
  pub version : w.version ≡ s.version
  pub totals : w.totals ≡ counts_of s

-- the same observer, at that state
abbrev pub at_state : StateView → Watch → Watch
at_state s w = record w { version = s.version; totals = counts_of s }

-- it stands where it stood, and refused once more, which a sure one doesn't
abbrev pub HasRefused : Watch → Watch → Type 0
HasRefused before now = (before.sure ≢ true) × (now ≡ record before { refusals = now.refusals }) × Rose before.refusals now.refusals

-- what it is to be told of the state from which later ones come: it stands there, with no refusals; or it isn't sure, and nothing is known of where it stands
abbrev pub IsBegun : {T : Type 0} → Result T AllocError → StateView → Watch → Watch → Type 0
IsBegun (Ok done) s before now = now ≡ record (at_state s before) { refusals = 0 }
IsBegun (Err e) s before now = (before.sure ≢ true) × (now.sure ≡ before.sure)

-- what it is to be told of a state: it stands there; or it refused
abbrev pub IsTold : {T : Type 0} → Result T AllocError → StateView → Watch → Watch → Type 0
IsTold (Ok done) s before now = now ≡ at_state s before
IsTold (Err e) s before now = HasRefused before now
