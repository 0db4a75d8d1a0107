-- What a reader of the front of some bytes finds.
use Rattle.std.specs.Prelude.{◌≡◌, ℕ, List, [], ◌∷◌, ◌++◌, Option, Some}
use Rattle.ip_text.specs.Place.{CanBegin}

-- the front is the longest that begins some text of the form, and the value is what the front spells, if it is a text
pub record Scan {A : Type 0} (Is : A → List ℕ → Type 0) (front rest : List ℕ) (value : Option A) : Type 0 where
  pub begins : CanBegin Is front
  pub longest : (b : ℕ) (more : List ℕ) → rest ≡ b ∷ more → CanBegin Is (front ++ b ∷ []) → ⊥
  pub found : (a : A) → value ≡ Some a → Is a front
  pub only : (a : A) → Is a front → value ≡ Some a

-- the same, of the bytes and what follows their front
pub record Scans {A : Type 0} (Is : A → List ℕ → Type 0) (bytes : List ℕ) (value : Option A) (rest : List ℕ) : Type 0 where
  pub front : List ℕ
  pub split : bytes ≡ front ++ rest
  pub scan : Scan Is front rest value
