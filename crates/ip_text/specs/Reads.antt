-- What a reader of a whole text answers.
use Rattle.std.specs.Prelude.{◌≡◌, ℕ, List, Result, Ok, Err}
use Rattle.ip_text.specs.declared.fault.TextFault.{TextFault}
use Rattle.ip_text.specs.Place.{IsPlace}

-- the one value that the text spells; or that it spells none, and where it leaves the wider form
abbrev pub ReadsWithin : {A : Type 0} → (A → List ℕ → Type 0) → (A → List ℕ → Type 0) → List ℕ → Result A TextFault → Type 0
ReadsWithin {A} Wider Is text (Ok a) = Is a text × ((b : A) → Is b text → b ≡ a)
ReadsWithin {A} Wider Is text (Err fault) = ((a : A) → Is a text → ⊥) × IsPlace Wider text fault.at

-- the same, where the form itself says where the text leaves it
abbrev pub Reads : {A : Type 0} → (A → List ℕ → Type 0) → List ℕ → Result A TextFault → Type 0
Reads Is = ReadsWithin Is Is
