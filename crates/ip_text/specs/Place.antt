-- A form is a relation between values and texts. Where a text leaves a form.
use Rattle.std.specs.Prelude.{◌≤◌, ℕ, List, ◌++◌, length, take}

-- the bytes begin some text of the form
pub record CanBegin {A : Type 0} (Is : A → List ℕ → Type 0) (front : List ℕ) : Type 0 where
  pub value : A
  pub rest : List ℕ
  pub spelled : Is value (front ++ rest)

-- the length of the longest prefix of the text that begins some text of the form
pub record IsPlace {A : Type 0} (Is : A → List ℕ → Type 0) (text : List ℕ) (at : ℕ) : Type 0 where
  pub within : at ≤ length text
  pub begins : CanBegin Is (take at text)
  pub longest : (n : ℕ) → n ≤ length text → CanBegin Is (take n text) → n ≤ at
