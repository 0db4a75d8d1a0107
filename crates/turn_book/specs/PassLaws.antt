-- Laws of the passes with which a book opens, and of passes that stand in the order of their numbers.
use Rattle.std.proofs.Common.{◌≡◌, ℕ, zero, suc, ◌+◌, ◌<◌, List, ◌∷◌, length, get_or, map, Contains, refl, ap, sym, ◌∙◌, subst, arith}
use Rattle.std.specs.List.{range_with_len}
use Rattle.turn_book.specs.Passes.{Book, Pass, new_pass, new_passes}
use Rattle.turn_book.specs.Closing.{HasEachCaller}

contains_in_range : (a n i : ℕ) → i < n → Contains (range_with_len a n) (a + i)
contains_in_range a zero i lt = absurd (omega arith)
contains_in_range a (suc n) zero lt = (0, omega arith, omega arith)
contains_in_range a (suc n) (suc i) lt =
    let rest = contains_in_range (a + 1) n i (omega arith) in
    let same : a + 1 + i ≡ a + suc i = omega arith in
    let below = rest.1 in
    (suc rest.0, omega arith, subst (λ (x : ℕ). get_or (range_with_len (a + 1) n) rest.0 x ≡ x) same rest.2)

-- where the passes stand in order, each caller's is among them
pub each_in_order : {G S R : Type 0} (b : Book G) (passes : List (Pass G S R)) → map (λ p. p.number) passes ≡ range_with_len 0 b.callers → HasEachCaller b passes
each_in_order b passes order i lt = let same : 0 + i ≡ i = omega arith in
    subst (λ l. Contains l i) (sym order) (subst (Contains (range_with_len 0 b.callers)) same (contains_in_range 0 b.callers i lt))

-- the passes with which a book opens stand in order
pub numbers_of_new : {G : Type 0} (S R : Type 0) (b : Book G) (n k : ℕ) → map (λ (p : Pass G S R). p.number) (new_passes b n k) ≡ range_with_len n k
numbers_of_new S R b n zero = refl
numbers_of_new S R b n (suc k) = ap (λ (l : List ℕ). n ∷ l) (numbers_of_new S R b (n + 1) k)

-- and each is a new one, with the number of its place
pub new_pass_at : {G S R : Type 0} (b : Book G) (n k i : ℕ) (d : Pass G S R) → i < k → get_or (new_passes b n k) i d ≡ new_pass b (n + i)
new_pass_at b n zero i d lt = absurd (omega arith)
new_pass_at b n (suc k) zero d lt = let same : n ≡ n + 0 = omega arith in ap (λ (j : ℕ). new_pass b j) same
new_pass_at b n (suc k) (suc i) d lt = let same : n + 1 + i ≡ n + suc i = omega arith in new_pass_at b (n + 1) k i d (omega arith) ∙ ap (λ (j : ℕ). new_pass b j) same

pub length-new_passes : {G : Type 0} (S R : Type 0) (b : Book G) (n k : ℕ) → length (new_passes {S = S} {R = R} b n k) ≡ k
length-new_passes S R b n zero = refl
length-new_passes S R b n (suc k) = ap suc (length-new_passes S R b (n + 1) k)
