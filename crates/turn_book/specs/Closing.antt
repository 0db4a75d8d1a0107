-- What the passes of a book are at its end.
use Rattle.std.specs.Prelude.{◌≡◌, ℕ, ◌<◌, false, List, map, Contains, slice_get, Some}
use Rattle.turn_book.specs.Passes.{Book, Pass}

-- The pass holds neither value.
pub record HoldsNothing {G S R : Type 0} (p : Pass G S R) : Type 0 where
  pub desk : p.holds_desk ≡ false
  pub chip : p.holds_chip ≡ false

-- Each number of the book's callers is that of one of the passes, in whatever order they stand.
abbrev pub HasEachCaller : {G S R : Type 0} → Book G → List (Pass G S R) → Type 0
HasEachCaller b passes = (i : ℕ) → i < b.callers → Contains (map (λ p. p.number) passes) i

-- Exactly one of the passes counted the round n.
abbrev pub IsCountedOnce : {G S R : Type 0} → List (Pass G S R) → ℕ → Type 0
IsCountedOnce {G} {S} {R} passes n = (k : ℕ) × (p : Pass G S R) × (slice_get passes k ≡ Some p) × Contains p.rounds n
    × ((j : ℕ) (q : Pass G S R) → slice_get passes j ≡ Some q → Contains q.rounds n → j ≡ k)
