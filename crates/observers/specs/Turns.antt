-- What observers are told in turn.
use Rattle.std.specs.Prelude.{◌≡◌, ◌⊎◌, ℕ, zero, suc, List, [], ◌∷◌}
use Rattle.switch_state.specs.StateView.{StateView}
use Rattle.observers.specs.Watch.{Watch, HasRefused, at_state}

-- the n-th member changed so, and the others are as before
abbrev pub ChangesAt : {A : Type 0} → (A → A → Type 0) → ℕ → List A → List A → Type 0
ChangesAt R n [] ys = ⊥
ChangesAt R n (x ∷ xs) [] = ⊥
ChangesAt R zero (x ∷ xs) (y ∷ ys) = R x y × (xs ≡ ys)
ChangesAt R (suc n) (x ∷ xs) (y ∷ ys) = (x ≡ y) × ChangesAt R n xs ys

-- the first n members changed so, and the others are as before
abbrev pub ChangesUpTo : {A : Type 0} → (A → A → Type 0) → ℕ → List A → List A → Type 0
ChangesUpTo R zero xs ys = xs ≡ ys
ChangesUpTo R (suc n) [] ys = [] ≡ ys
ChangesUpTo R (suc n) (x ∷ xs) [] = ⊥
ChangesUpTo R (suc n) (x ∷ xs) (y ∷ ys) = R x y × ChangesUpTo R n xs ys

-- after a round it stands at the new state; or where it stood and its count of refusals rose, which that of a sure one doesn't
abbrev pub WasTold : StateView → Watch → Watch → Type 0
WasTold s before now = (now ≡ at_state s before) ⊎ HasRefused before now
