-- Observers that are told in turn, with the states that are kept for them.
use Rattle.std.proofs.Common.{◌≡◌, ◌≢◌, ◌⊎◌, ◌<◌, ◌≤◌, ◌+◌, ℕ, zero, suc, true, List, [], ◌∷◌, ◌++◌, map, length, slice_get, IfSome, inl, inr, refl, sym, ap, subst, ◌∙◌, arith, add-one}
use Rattle.std.specs.List.{All, AllByRecursion, AllZip}
use Rattle.core_laws.proofs.AudienceLaws.{second_follows}
use Rattle.core_laws.specs.Audience.{AudienceView, WereBegun, WereTold}
use Rattle.observers.proofs.ListTurns.{all_changed, changes_even, pairs_even, one_more}
use Rattle.observers.specs.Turns.{ChangesAt, ChangesUpTo, WasTold}
use Rattle.observers.specs.Watch.{HasRefused, Rose, StandsAt, Watch, at_state}
use Rattle.switch_state.specs.Follows.{Follows}
use Rattle.switch_state.specs.StateView.{StateView}

-- an observer that was told stands at the state
pub told_stands : (s : StateView) (w v : Watch) → v ≡ at_state s w → StandsAt s v
told_stands s w v e = rw e (record { version = refl; totals = refl })

-- one that refused stands where it stood
pub refused_stands : (x : StateView) (w v : Watch) → StandsAt x w → HasRefused w v → StandsAt x v
refused_stands x w v p r = rw r.1 (record { version = p.version; totals = p.totals })

-- what is kept for one is what was, or the state
abbrev pub IsKeptOr : StateView → StateView → StateView → Type 0
IsKeptOr s before after = (after ≡ before) ⊎ (after ≡ s)

-- what holds of all holds at each place
pub all_at : {A : Type 0} (P : A → Type 0) (xs : List A) (n : ℕ) → AllByRecursion P xs → IfSome (slice_get xs n) P
all_at P [] n all = tt
all_at P (x ∷ xs) zero all = all.0
all_at P (x ∷ xs) (suc n) all = all_at P xs n all.1

-- what holds of all and isn't lost by the change at one place holds of all after it
pub all_kept : {A : Type 0} (P : A → Type 0) (R : A → A → Type 0) (n : ℕ) (xs ys : List A) → ((x y : A) → P x → R x y → P y) → ChangesAt R n xs ys → AllByRecursion P xs → AllByRecursion P ys
all_kept P R n [] ys f at all = absurd at
all_kept P R n (x ∷ xs) [] f at all = absurd at
all_kept P R zero (x ∷ xs) (y ∷ ys) f at all = (f x y all.0 at.0, rw (← at.1) all.1)
all_kept P R (suc n) (x ∷ xs) (y ∷ ys) f at all = (rw (← at.0) all.0, all_kept P R n xs ys f at.1 all.1)

-- what is kept after one was told is followed by the state
pub still_followed : (s x y : StateView) → Follows x s → IsKeptOr s x y → Follows y s
still_followed s x y before (inl same) = subst (λ (z : StateView). Follows z s) (sym same) before
still_followed s x y before (inr new) = subst (λ (z : StateView). Follows z s) (sym new) (second_follows x s before)

-- the first n were told of the state
pub record AreTold (n : ℕ) (s : StateView) (first now : AudienceView) (left : List StateView) : Type 0 where
  pub watches : ChangesUpTo (WasTold s) n first.watches now.watches
  pub kept : ChangesUpTo (IsKeptOr s) n first.kept now.kept
  pub follows : AllByRecursion (λ k. Follows k s) now.kept
  pub even : length now.kept ≡ length first.watches
  pub even_first : length first.kept ≡ length first.watches
  pub shares : (k : ℕ) → n ≤ k → IfSome (slice_get left k) (λ x. x ≡ s)
  pub enough : length left ≡ length first.watches

pub told_none : (s : StateView) (first : AudienceView) (left : List StateView) → AllByRecursion (λ k. Follows k s) first.kept → length first.kept ≡ length first.watches → ((k : ℕ) → IfSome (slice_get left k) (λ x. x ≡ s)) → length left ≡ length first.watches → AreTold 0 s first first left
told_none s first left follows even shares enough = record { watches = refl; kept = refl; follows = follows; even = even; even_first = even; shares = λ k _. shares k; enough = enough }

pub told_more : (n : ℕ) (s : StateView) (first now next : AudienceView) (left after : List StateView) → AreTold n s first now left → ChangesAt (WasTold s) n now.watches next.watches → ChangesAt (IsKeptOr s) n now.kept next.kept →
    ((k : ℕ) → n < k → IfSome (slice_get after k) (λ x. x ≡ s)) → length after ≡ length left → AreTold (n + 1) s first next after
told_more n s first now next left after told watches kept shares same = record {
  watches = rw (add-one n) (one_more (WasTold s) n first.watches now.watches next.watches told.watches watches);
  kept = rw (add-one n) (one_more (IsKeptOr s) n first.kept now.kept next.kept told.kept kept);
  follows = all_kept (λ k. Follows k s) (IsKeptOr s) n now.kept next.kept (still_followed s) kept told.follows;
  even = sym (changes_even (IsKeptOr s) n now.kept next.kept kept) ∙ told.even;
  even_first = told.even_first;
  shares = λ k past. shares k (omega (arith, past));
  enough = same ∙ told.enough;
}

pub all_told : (n : ℕ) (s : StateView) (first now : AudienceView) (left : List StateView) → AreTold n s first now left → n ≡ length first.watches → AllZip StandsAt now.kept now.watches → WereTold s first now
all_told n s first now left told all stands = record {
  watches = all_changed (WasTold s) n first.watches now.watches all told.watches;
  kept = all_changed (IsKeptOr s) n first.kept now.kept (all ∙ sym told.even_first) told.kept;
  stands = stands;
}

-- each of the first n stands at the state from which the later ones come
abbrev pub IsAtStart : StateView → Watch → Watch → Type 0
IsAtStart s w v = v ≡ record (at_state s w) { refusals = 0 }

pub record AreBegun (n : ℕ) (s : StateView) (first now : List Watch) (states : List StateView) : Type 0 where
  pub watches : ChangesUpTo (IsAtStart s) n first now
  pub kept : AllByRecursion (λ k. k ≡ s) states
  pub count : length states ≡ n

start_stands : (s x : StateView) (w v : Watch) → x ≡ s → IsAtStart s w v → StandsAt x v
start_stands s x w v x_is e = subst (λ (z : StateView). StandsAt z v) (sym x_is) (rw e (record { version = refl; totals = refl }))

all_stand : (s : StateView) (ws vs : List Watch) (xs : List StateView) → length xs ≡ length vs → AllByRecursion (λ k. k ≡ s) xs → AllZip (IsAtStart s) ws vs → AllZip StandsAt xs vs
all_stand s [] [] [] e all pairs = tt
all_stand s [] [] (x ∷ xs) e all pairs = absurd (omega (arith, e))
all_stand s [] (v ∷ vs) xs e all pairs = absurd pairs
all_stand s (w ∷ ws) [] xs e all pairs = absurd pairs
all_stand s (w ∷ ws) (v ∷ vs) [] e all pairs = absurd (omega (arith, e))
all_stand s (w ∷ ws) (v ∷ vs) (x ∷ xs) e all pairs = (start_stands s x w v all.0 pairs.0, all_stand s ws vs xs (omega (arith, e)) all.1 pairs.1)

pub begun_none : (s : StateView) (first : List Watch) (kept : List StateView) → kept ≡ [] → AreBegun 0 s first first kept
begun_none s first kept none = record { watches = refl; kept = subst (λ (l : List StateView). AllByRecursion (λ k. k ≡ s) l) (sym none) tt; count = ap length none }

pub length_map : {A B : Type 0} (f : A → B) (xs : List A) → length (map f xs) ≡ length xs
length_map f [] = refl
length_map f (x ∷ xs) = ap suc (length_map f xs)

up_to_even : {A : Type 0} (R : A → A → Type 0) (n : ℕ) (xs ys : List A) → ChangesUpTo R n xs ys → length xs ≡ length ys
up_to_even R zero xs ys up = ap length up
up_to_even R (suc n) [] ys up = ap length up
up_to_even R (suc n) (x ∷ xs) [] up = absurd up
up_to_even R (suc n) (x ∷ xs) (y ∷ ys) up = ap suc (up_to_even R n xs ys up.1)

-- the next one is there
pub next_there : {A : Type 0} (n end : ℕ) (s : StateView) (f : A → Watch) (first now : List A) (kept : List StateView) → AreBegun n s (map f first) (map f now) kept → n < end → end ≡ length first → n < length now
next_there n end s f first now kept begun below end_is =
    let even : length first ≡ length now = sym (length_map f first) ∙ up_to_even (IsAtStart s) n (map f first) (map f now) begun.watches ∙ length_map f now in
    omega (arith, below, end_is, even)

pub all_begun : (n : ℕ) (s : StateView) (first now : List Watch) (kept : List StateView) → AreBegun n s first now kept → n ≡ length first → WereBegun s (record { watches = first; kept = [] }) (record { watches = now; kept = kept })
all_begun n s first now kept begun all =
    let pairs : AllZip (IsAtStart s) first now = all_changed (IsAtStart s) n first now all begun.watches in
    record {
      watches = pairs;
      kept = begun.kept;
      stands = all_stand s first now kept (begun.count ∙ all ∙ pairs_even (IsAtStart s) first now pairs) begun.kept pairs;
    }

pub all_pushed : {A : Type 0} (P : A → Type 0) (xs : List A) (y : A) → AllByRecursion P xs → P y → AllByRecursion P (xs ++ y ∷ [])
all_pushed P [] y all p = (p, tt)
all_pushed P (x ∷ xs) y all p = (all.0, all_pushed P xs y all.1 p)

pub length_pushed : {A : Type 0} (xs : List A) (y : A) → length (xs ++ y ∷ []) ≡ suc (length xs)
length_pushed [] y = refl
length_pushed (x ∷ xs) y = ap suc (length_pushed xs y)

pub begun_more : (n : ℕ) (s share : StateView) (first now next : List Watch) (kept more : List StateView) → AreBegun n s first now kept → ChangesAt (IsAtStart s) n now next → share ≡ s → more ≡ kept ++ share ∷ [] → AreBegun (n + 1) s first next more
begun_more n s share first now next kept more begun at share_is more_is = record {
  watches = rw (add-one n) (one_more (IsAtStart s) n first now next begun.watches at);
  kept = subst (λ (l : List StateView). AllByRecursion (λ k. k ≡ s) l) (sym more_is) (all_pushed (λ k. k ≡ s) kept share begun.kept share_is);
  count = ap length more_is ∙ length_pushed kept share ∙ ap suc begun.count ∙ sym (add-one n);
}
