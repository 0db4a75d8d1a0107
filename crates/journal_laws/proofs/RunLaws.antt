-- The run of a list of submissions.
use Rattle.std.proofs.Common.{◌≡◌, ◌≢◌, ◌≤◌, ◌⊎◌, ℕ, zero, suc, Bool, true, false, cond, List, [], ◌∷◌, ◌++◌, length, take, inl, inr, refl, sym, ap, subst, ◌∙◌, lit≤, arith}
use Rattle.std.proofs.lemmas.Bool.{cond-true, cond-false}
use Rattle.std.proofs.lemmas.List.{length-take, take_all}
use Rattle.switch_model.specs.declared.act.Submission.{Submission}
use Rattle.keyed.specs.Prefix.{IsPrefix, prefix_length, prefix_self, prefix_none, prefix_trans, take_prefix, prefix_take}
use Rattle.switch_model.specs.Legal.{IsRun}
use Rattle.switch_model.specs.Round.{unmarked, run}
use Rattle.journal_laws.specs.Runs.{NoneAlone, IsAlone, IsRunOf}
use Rattle.keyed.specs.ListLaws.{take_none, take_swap}

-- submissions up to the first that is to be alone, step by step

taken_by : (b : Bool) (s : Submission) (n : ℕ) (xs ys : List Submission) → xs ≡ take n ys → cond b [] (s ∷ xs) ≡ take (suc n) (cond b [] (s ∷ ys))
taken_by true s n xs ys e = refl
taken_by false s n xs ys e = ap (λ (l : List Submission). s ∷ l) e

pub unmarked-take : (n : ℕ) (p : List Submission) → unmarked (take n p) ≡ take n (unmarked p)
unmarked-take zero p = refl
unmarked-take (suc n) [] = refl
unmarked-take (suc n) (s ∷ ss) = taken_by s.update.alone s n (unmarked (take n ss)) (unmarked ss) (unmarked-take n ss)

prefix_by : (b : Bool) (s : Submission) (xs ss : List Submission) → IsPrefix xs ss → IsPrefix (cond b [] (s ∷ xs)) (s ∷ ss)
prefix_by true s xs ss f = prefix_none (s ∷ ss)
prefix_by false s xs ss f = (f.0, ap (λ (l : List Submission). s ∷ l) f.1)

pub unmarked_prefix : (p : List Submission) → IsPrefix (unmarked p) p
unmarked_prefix [] = prefix_self []
unmarked_prefix (s ∷ ss) = prefix_by s.update.alone s (unmarked ss) ss (unmarked_prefix ss)

none_by : (b : Bool) (s : Submission) (xs : List Submission) → s.update.alone ≡ b → NoneAlone xs → NoneAlone (cond b [] (s ∷ xs))
none_by true s xs e none = tt
none_by false s xs e none = (e, none)

pub unmarked_none : (p : List Submission) → NoneAlone (unmarked p)
unmarked_none [] = tt
unmarked_none (s ∷ ss) = none_by s.update.alone s (unmarked ss) refl (unmarked_none ss)

pub none_take : (n : ℕ) (q : List Submission) → NoneAlone q → NoneAlone (take n q)
none_take zero q none = tt
none_take (suc n) [] none = tt
none_take (suc n) (s ∷ ss) none = (none.0, none_take n ss none.1)

-- where none is to be alone, that is the whole list
pub unmarked_all : (q : List Submission) → NoneAlone q → unmarked q ≡ q
unmarked_all [] none = refl
unmarked_all (s ∷ ss) none = cond-false s.update.alone [] (s ∷ unmarked ss) none.0 ∙ ap (λ (l : List Submission). s ∷ l) (unmarked_all ss none.1)

-- the run by its first

pub run_alone : (s : Submission) (ss : List Submission) → s.update.alone ≡ true → run (s ∷ ss) ≡ s ∷ []
run_alone s ss e = cond-true s.update.alone (s ∷ []) (take 64 (unmarked (s ∷ ss))) e

pub run_others : (s : Submission) (ss : List Submission) → s.update.alone ≡ false → run (s ∷ ss) ≡ take 64 (unmarked (s ∷ ss))
run_others s ss e = cond-false s.update.alone (s ∷ []) (take 64 (unmarked (s ∷ ss))) e

-- one submission is its own run
single_by : (b : Bool) (s : Submission) → cond b (s ∷ []) (take 64 (cond b [] (s ∷ []))) ≡ s ∷ []
single_by true s = refl
single_by false s = refl

pub run_single : (s : Submission) → run (s ∷ []) ≡ s ∷ []
run_single s = single_by s.update.alone s

some_by : (b : Bool) (s : Submission) (xs : List Submission) → 1 ≤ length (cond b (s ∷ []) (take 64 (cond b [] (s ∷ xs))))
some_by true s xs = lit≤ tt
some_by false s xs = omega arith

not_none : {A : Type 0} (q : List A) → q ≢ [] → 1 ≤ length q
not_none [] ne = absurd (ne refl)
not_none (s ∷ ss) ne = omega arith

some_not : {A : Type 0} (q : List A) → 1 ≤ length q → q ≢ []
some_not q some e = let none : length q ≡ 0 = ap length e in omega (arith, none, some)

pub run_some : (p : List Submission) → 1 ≤ length p → 1 ≤ length (run p)
run_some [] some = some
run_some (s ∷ ss) some = some_by s.update.alone s (unmarked ss)

short_by : (b : Bool) (s : Submission) (xs : List Submission) → length (cond b (s ∷ []) (take 64 xs)) ≤ 64
short_by true s xs = lit≤ tt
short_by false s xs = omega (arith, length-take 64 xs)

pub run_short : (p : List Submission) → length (run p) ≤ 64
run_short [] = lit≤ tt
run_short (s ∷ ss) = short_by s.update.alone s (unmarked (s ∷ ss))

run_prefix_by : (b : Bool) (s : Submission) (ss xs : List Submission) → IsPrefix xs (s ∷ ss) → IsPrefix (cond b (s ∷ []) xs) (s ∷ ss)
run_prefix_by true s ss xs f = (ss, refl)
run_prefix_by false s ss xs f = f

pub run_prefix : (p : List Submission) → IsPrefix (run p) p
run_prefix [] = prefix_self []
run_prefix (s ∷ ss) = run_prefix_by s.update.alone s ss (take 64 (unmarked (s ∷ ss))) (prefix_trans (take 64 (unmarked (s ∷ ss))) (unmarked (s ∷ ss)) (s ∷ ss) (take_prefix 64 (unmarked (s ∷ ss))) (unmarked_prefix (s ∷ ss)))

-- the run of first submissions begins the run
run_take_by : (b : Bool) (s : Submission) (n : ℕ) (xs ys : List Submission) → xs ≡ take (suc n) ys → cond b (s ∷ []) xs ≡ take (suc n) (cond b (s ∷ []) ys)
run_take_by true s n xs ys e = ap (λ (l : List Submission). s ∷ l) (sym (take_none n))
run_take_by false s n xs ys e = e

pub run-take : (n : ℕ) (p : List Submission) → 1 ≤ n → run (take n p) ≡ take n (run p)
run-take zero p some = absurd (omega (arith, some))
run-take (suc n) [] some = refl
run-take (suc n) (s ∷ ss) some =
    run_take_by s.update.alone s n (take 64 (unmarked (take (suc n) (s ∷ ss)))) (take 64 (unmarked (s ∷ ss)))
    (ap (take 64) (unmarked-take (suc n) (s ∷ ss)) ∙ take_swap 64 (suc n) (unmarked (s ∷ ss)))

-- what is past the first 64 plays no part
pub run_take_64 : (p : List Submission) → run (take 64 p) ≡ run p
run_take_64 p = run-take 64 p (lit≤ tt) ∙ take_all 64 (run p) (run_short p)

-- a run is its own run
pub run-run : (p : List Submission) → 1 ≤ length p → run (run p) ≡ run p
run-run p some =
    ap run (prefix_take (run p) p (run_prefix p))
    ∙ run-take (length (run p)) p (run_some p some)
    ∙ take_all (length (run p)) (run p) (omega arith)

pub run_is_run : (p : List Submission) → 1 ≤ length p → IsRun (run p)
run_is_run p some = (some_not (run p) (run_some p some), run-run p some)

pub run_of_more : (p : List Submission) → p ≢ [] → IsRun (run p)
run_of_more p ne = run_is_run p (not_none p ne)

-- and so is what is left of a run when its end is cut off
pub run_cut : (q : List Submission) (n : ℕ) → IsRun q → 1 ≤ n → IsRun (take n q)
run_cut q n is some =
    let e : run (take n q) ≡ take n q = run-take n q some ∙ ap (take n) is.1 in
    let more : (n : ℕ) (l : List Submission) → 1 ≤ n → 1 ≤ length l → 1 ≤ length (take n l) = λ n l a b. omega (arith, length-take n l) in
    (some_not (take n q) (more n q some (not_none q is.0)), e)

apart_by : (b : Bool) (s : Submission) (xs : List Submission) → s.update.alone ≡ b → NoneAlone xs → IsAlone (cond b (s ∷ []) xs) ⊎ NoneAlone (cond b (s ∷ []) xs)
apart_by true s xs e none = inl (s, refl, e)
apart_by false s xs e none = inr none

pub run_apart : (p : List Submission) → IsAlone (run p) ⊎ NoneAlone (run p)
run_apart [] = inr tt
run_apart (s ∷ ss) = apart_by s.update.alone s (take 64 (unmarked (s ∷ ss))) refl (none_take 64 (unmarked (s ∷ ss)) (unmarked_none (s ∷ ss)))

-- what begins the list and has none that is to be alone begins the longest such
unmarked_longest : (r p : List Submission) → IsPrefix r p → NoneAlone r → r ≡ take (length r) (unmarked p)
unmarked_longest r p f none = sym (unmarked_all r none) ∙ ap unmarked (prefix_take r p f) ∙ unmarked-take (length r) p

longest_by : (b : Bool) (s : Submission) (r xs : List Submission) → (b ≡ true → r ≡ []) → IsPrefix r xs → IsPrefix r (cond b (s ∷ []) xs)
longest_by true s r xs nothing f = subst (λ (l : List Submission). IsPrefix l (s ∷ [])) (sym (nothing refl)) (prefix_none (s ∷ []))
longest_by false s r xs nothing f = f

true_false : true ≡ false → ⊥
true_false h = cc

-- where the first is to be alone, nothing longer is without such
none_first : (r : List Submission) (s : Submission) (ss : List Submission) → IsPrefix r (s ∷ ss) → NoneAlone r → s.update.alone ≡ true → r ≡ []
none_first [] s ss f none e = refl
none_first (x ∷ r) s ss f none e =
    let first : s.update.alone ≡ x.update.alone = ap (λ (l : List Submission). alone_of l s.update.alone) f.1 in
    absurd (true_false (sym e ∙ first ∙ none.0))
  where
    alone_of : List Submission → Bool → Bool
    alone_of [] b = b
    alone_of (y ∷ ys) b = y.update.alone

pub run_longest : (p r : List Submission) → IsPrefix r p → NoneAlone r → length r ≤ 64 → IsPrefix r (run p)
run_longest [] r f none short = f
run_longest (s ∷ ss) r f none short =
    let all : List Submission = unmarked (s ∷ ss) in
    let e : take (length r) (take 64 all) ≡ r =
    take_swap (length r) 64 all ∙ ap (take 64) (sym (unmarked_longest r (s ∷ ss) f none)) ∙ take_all 64 r short in
    longest_by s.update.alone s r (take 64 all) (none_first r s ss f none)
    (subst (λ (l : List Submission). IsPrefix l (take 64 all)) e (take_prefix (length r) (take 64 all)))

pub run_of : (p : List Submission) → p ≢ [] → IsRunOf p (run p)
run_of p ne = record { some = run_some p (not_none p ne); at_most_64 = run_short p; begins = run_prefix p; apart = run_apart p; longest = run_longest p }

-- there is only one such

alone_none : (p q r : List Submission) → IsRunOf p q → IsRunOf p r → IsAlone q → NoneAlone r → ⊥
alone_none p q r qs rs alone none =
    let s : Submission = alone.0 in
    let begins : p ≡ s ∷ qs.begins.0 = qs.begins.1 ∙ ap (λ (l : List Submission). l ++ qs.begins.0) alone.1 in
    let front : IsPrefix r (s ∷ qs.begins.0) = subst (λ (l : List Submission). IsPrefix r l) begins rs.begins in
    let nothing : length r ≡ 0 = ap length (none_first r s qs.begins.0 front none alone.2) in
    omega (arith, nothing, rs.some)

same_prefix : (p q r : List Submission) → IsPrefix q p → IsPrefix r p → length q ≡ length r → q ≡ r
same_prefix p q r f g e = prefix_take q p f ∙ ap (λ (n : ℕ). take n p) e ∙ sym (prefix_take r p g)

same_runs : (p q r : List Submission) → IsRunOf p q → IsRunOf p r → q ≡ r
same_runs p q r qs rs = elim qs.apart [
  | inl alone ↦ elim rs.apart [
    | inl other ↦ let one : length q ≡ 1 = ap length alone.1 in let too : length r ≡ 1 = ap length other.1 in same_prefix p q r qs.begins rs.begins (omega (arith, one, too))
    | inr none ↦ absurd (alone_none p q r qs rs alone none)
  ]
  | inr none ↦ elim rs.apart [
    | inl alone ↦ absurd (alone_none p r q rs qs alone none)
    | inr both ↦
        let least = prefix_length r q (qs.longest r rs.begins both rs.at_most_64) in
        let most = prefix_length q r (rs.longest q qs.begins none qs.at_most_64) in
        same_prefix p q r qs.begins rs.begins (omega (arith, least, most))
  ]
]

pub run_only : (p q : List Submission) → IsRunOf p q → q ≡ run p
run_only p q is =
    let long = prefix_length q p is.begins in
    let some : 1 ≤ length p = omega (arith, long, is.some) in
    same_runs p q (run p) is (run_of p (some_not p some))
