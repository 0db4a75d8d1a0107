-- A run that is taken one submission after another.
use Rattle.std.proofs.Common.{◌≡◌, ◌<◌, ◌-◌, ℕ, zero, suc, false, List, [], ◌∷◌, ◌++◌, length, take, drop, min, slice_index_or, ap, sym, ◌∙◌, arith, append_assoc}
use Rattle.std.proofs.lemmas.Bool.{cond-false}
use Rattle.switch_model.specs.declared.act.Submission.{Submission}
use Rattle.switch_model.specs.Round.{unmarked}

-- what is left from a place on begins with what stands there
drop_at : {A : Type 0} (xs : List A) (n : ℕ) (x : A) → n < length xs → x ≡ slice_index_or xs n x → drop n xs ≡ x ∷ drop (suc n) xs
drop_at [] n x short is = absurd (omega (arith, short))
drop_at (y ∷ xs) zero x short is = ap (λ z. z ∷ xs) (sym is)
drop_at (y ∷ xs) (suc n) x short is = drop_at xs n x (omega (arith, short)) is

-- dropping one more
pub drop_one_more : {A : Type 0} (xs ys zs : List A) (n : ℕ) → ys ≡ drop n xs → zs ≡ drop 1 ys → zs ≡ drop (suc n) xs
drop_one_more [] ys zs zero ys_are zs_are = zs_are ∙ ap (drop 1) ys_are
drop_one_more [] ys zs (suc n) ys_are zs_are = zs_are ∙ ap (drop 1) ys_are
drop_one_more (x ∷ xs) ys zs zero ys_are zs_are = zs_are ∙ ap (drop 1) ys_are
drop_one_more (x ∷ xs) ys zs (suc n) ys_are zs_are = drop_one_more xs ys zs n ys_are zs_are

-- so many were taken, and this is left to take
abbrev pub left_to_take : ℕ → List Submission → List Submission
left_to_take n p = take (64 - n) (unmarked (drop n p))

take_next : (n : ℕ) (s : Submission) (ss : List Submission) → n < 64 → s.update.alone ≡ false → take (64 - n) (unmarked (s ∷ ss)) ≡ s ∷ take (64 - suc n) (unmarked ss)
take_next n s ss below e =
    let more : 64 - n ≡ suc (64 - suc n) = omega (arith, below) in
    ap (take (64 - n)) (cond-false s.update.alone [] (s ∷ unmarked ss) e) ∙ ap (λ (k : ℕ). take k (s ∷ unmarked ss)) more

-- one more was taken
pub one_taken : (p list list' goal : List Submission) (n : ℕ) (s : Submission) → n < min 64 (length p) → s ≡ slice_index_or p n s → s.update.alone ≡ false → list' ≡ list ++ s ∷ [] → list ++ left_to_take n p ≡ goal → list' ++ left_to_take (suc n) p ≡ goal
one_taken p list list' goal n s below is e added so_far =
    let first : drop n p ≡ s ∷ drop (suc n) p = drop_at p n s (omega (arith, below)) is in
    let left : left_to_take n p ≡ s ∷ left_to_take (suc n) p = ap (λ l. take (64 - n) (unmarked l)) first ∙ take_next n s (drop (suc n) p) (omega (arith, below)) e in
    ap (λ l. l ++ left_to_take (suc n) p) added ∙ append_assoc list (s ∷ []) (left_to_take (suc n) p) ∙ ap (λ l. list ++ l) (sym left) ∙ so_far
