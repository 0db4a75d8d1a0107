-- What a book and its passes show.
use Rattle.std.specs.Prelude.{◌≡◌, ℕ, zero, suc, ◌+◌, Bool, false, List, [], ◌∷◌, ◌++◌, length, Option, Some}
use Rattle.std.specs.List.{range_with_len}
use Rattle.atomic_table.specs.Seated.{TableId}
use Rattle.turn_book.specs.Lists.{own, AreNumbered, AscendWithin}

-- A book: which one it is, how many callers it has, and what it was opened with.
pub record Book (G : Type 0) : Type 0 where
  pub id : TableId
  pub callers : ℕ
  pub opening : G

-- A pass: its book, its number, the submissions and the rounds that it has seen, its own submissions, the numbers of the rounds that it
-- counted, how often it found the desk and found it away, how many of these were tries, and which of the two values it holds.
pub record Pass (G S R : Type 0) : Type 0 where
  pub book : TableId
  pub callers : ℕ
  pub opening : Option G
  pub number : ℕ
  pub seen : List S
  pub mine : List S
  pub jseen : List R
  pub rounds : List ℕ
  pub takes : ℕ
  pub misses : ℕ
  pub tries : ℕ
  pub holds_desk : Bool
  pub holds_chip : Bool

-- The pass is one of the book's.
pub record IsPassOf {G S R : Type 0} (b : Book G) (p : Pass G S R) : Type 0 where
  pub book : p.book ≡ b.id
  pub callers : p.callers ≡ b.callers
  pub opening : p.opening ≡ Some b.opening

-- The two are states of one caller's pass.
pub record IsSameCaller {G S R : Type 0} (p q : Pass G S R) : Type 0 where
  pub book : p.book ≡ q.book
  pub callers : p.callers ≡ q.callers
  pub opening : p.opening ≡ q.opening
  pub number : p.number ≡ q.number

-- A caller's lists agree: its submissions are those that it has seen of itself, and are numbered in order; the rounds that it counted
-- ascend and are of those that it has seen; and a caller that is alone made all that it has seen.
pub record ListsAgree {S : Type 0} (caller sequence : S → ℕ) (callers number : ℕ) (seen mine : List S) (seen_rounds : ℕ) (rounds : List ℕ) : Type 0 where
  pub of_seen : mine ≡ own caller number seen
  pub numbered : AreNumbered sequence mine
  pub ascend : AscendWithin 0 seen_rounds rounds
  pub alone : callers ≡ 1 → (seen ≡ mine) × (rounds ≡ range_with_len 0 seen_rounds)

-- The lists that the pass shows agree.
abbrev pub IsConsistent : {G S R : Type 0} → (S → ℕ) → (S → ℕ) → Pass G S R → Type 0
IsConsistent caller sequence p = ListsAgree caller sequence p.callers p.number p.seen p.mine (length p.jseen) p.rounds

-- The pass with the number i, before its first call.
abbrev pub new_pass : {G S R : Type 0} → Book G → ℕ → Pass G S R
new_pass b i = record { book = b.id; callers = b.callers; opening = Some b.opening; number = i; seen = []; mine = []; jseen = []; rounds = []; takes = 0; misses = 0; tries = 0; holds_desk = false; holds_chip = false }

-- That many new passes, numbered from n on.
abbrev pub new_passes : {G S R : Type 0} → Book G → ℕ → ℕ → List (Pass G S R)
new_passes b n zero = []
new_passes b n (suc more) = new_pass b n ∷ new_passes b (n + 1) more

-- What is sent is what the pass has seen and one submission more, of its caller and with that caller's next sequence number.
abbrev pub IsNextSubmission : {G S R : Type 0} → (S → ℕ) → (S → ℕ) → Pass G S R → List S → Type 0
IsNextSubmission {S = S} caller sequence p sent = (s : S) × (sent ≡ p.seen ++ s ∷ []) × (caller s ≡ p.number) × (sequence s ≡ length p.mine)

-- The journal is what the pass has seen and one round more, which settles k submissions.
abbrev pub IsNextRound : {G S R : Type 0} → (R → List S) → ℕ → Pass G S R → List R → Type 0
IsNextRound {R = R} subs k p done = (r : R) × (done ≡ p.jseen ++ r ∷ []) × (length (subs r) ≡ k)
