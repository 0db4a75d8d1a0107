-- Lists of submissions and of rounds.
use Rattle.std.specs.Prelude.{◌≡◌, ℕ, ◌+◌, ◌<◌, ◌≤◌, ◌==◌, List, [], ◌∷◌, length, map, filter, if◌then◌else◌}
use Rattle.std.specs.List.{flat_map, range_with_len}

-- The submissions of caller i, in order.
abbrev pub own : {S : Type 0} → (S → ℕ) → ℕ → List S → List S
own caller i = filter (λ s. caller s == i)

-- The submissions have the sequence numbers 0, 1, 2 and so on.
abbrev pub AreNumbered : {S : Type 0} → (S → ℕ) → List S → Type 0
AreNumbered sequence submissions = map sequence submissions ≡ range_with_len 0 (length submissions)

-- The submissions that the rounds settle, one round after another.
abbrev pub strip : {S R : Type 0} → (R → List S) → List R → List S
strip subs = flat_map subs

-- The numbers of the rounds that caller i counted, where a list names the counter of each round, the first of which has number n.
abbrev pub rounds_of : ℕ → ℕ → List ℕ → List ℕ
rounds_of i n [] = []
rounds_of i n (counter ∷ counters) = if counter == i then n ∷ rounds_of i (n + 1) counters else rounds_of i (n + 1) counters

-- The numbers ascend, none below low, and each is below high.
abbrev pub AscendWithin : ℕ → ℕ → List ℕ → Type 0
AscendWithin low high [] = Unit {0}
AscendWithin low high (n ∷ ns) = (low ≤ n) × (n < high) × AscendWithin (n + 1) high ns
