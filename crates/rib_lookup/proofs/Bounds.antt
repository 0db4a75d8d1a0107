-- The ends of the parts of ascending keys are what a search finds.
use Rattle.std.proofs.Common.{◌≡◌, not, Bool, true, false, cond, Option, None, Some, List, [], ◌∷◌, refl, sym, ap, ◌∙◌}
use Rattle.std.specs.List.{AllByRecursion, filter, find}
use Rattle.std.specs.List.Sorted.{IsStrictlySortedBy}
use Rattle.std.specs.Option.{unwrap_or}
use Rattle.std.specs.Ordering.{is_ge, is_gt, is_le, is_lt}
use Rattle.std.specs.declared.cmp.Ordering.{Ordering}
use Rattle.std.specs.declared.cmp.Ordering.TheVariants.{Less, Equal, Greater}
use Rattle.std.proofs.lemmas.Bool.{cond_both}
use Rattle.keyed.specs.Keyed.{IsKeyOrder}
use Rattle.keyed.specs.Ranges.{head_of, keys_onward, keys_past, keys_up_to, onward}
use Rattle.keyed.specs.Ranges as ranges
use Rattle.route_laws.specs.Descent.{last_of, later_of, up_to}
use Rattle.rib_lookup.proofs.Firsts.{lt_turned}

pub head-find : {A : Type 0} (p : A → Bool) (xs : List A) → head_of (filter p xs) ≡ find p xs
head-find p [] = refl
head-find p (x ∷ xs) = by (p x) (head-find p xs)
  where
    by : (b : Bool) → head_of (filter p xs) ≡ find p xs → head_of (cond b (x ∷ filter p xs) (filter p xs)) ≡ cond b (Some x) (find p xs)
    by true rest = refl
    by false rest = rest

pub head-all : {A : Type 0} (xs : List A) → head_of xs ≡ find (λ _. true) xs
head-all [] = refl
head-all (x ∷ xs) = refl

find-alike : {A : Type 0} (p q : A → Bool) (xs : List A) → ((x : A) → p x ≡ q x) → find p xs ≡ find q xs
find-alike p q [] same = refl
find-alike p q (x ∷ xs) same = ap (λ (b : Bool). cond b (Some x) (find p xs)) (same x) ∙ ap (λ o. cond (q x) (Some x) o) (find-alike p q xs same)

gt_not : (o : Ordering) → is_gt o ≡ not (is_le o)
gt_not Less = refl
gt_not Equal = refl
gt_not Greater = refl

ge_not : (o : Ordering) → is_ge o ≡ not (is_lt o)
ge_not Less = refl
ge_not Equal = refl
ge_not Greater = refl

less_is : (o : Ordering) → is_lt o ≡ true → o ≡ Less
less_is Less h = refl
less_is Equal h = absurd (cc)
less_is Greater h = absurd (cc)

is_not : (b c : Bool) → b ≡ not c → b ≡ true → c ≡ false
is_not b true is h = absurd (cc)
is_not b false is h = refl

not_is : (b c : Bool) → b ≡ not c → b ≡ false → c ≡ true
not_is b true is h = refl
not_is b false is h = absurd (cc)

last_same : {K : Type 0} (ks : List K) → ranges.last_of ks ≡ last_of ks
last_same [] = refl
last_same {K = K} (k ∷ ks) = later (ranges.last_of ks) ∙ ap (later_of k) (last_same ks)
  where
    later : (o : Option K) → Some (unwrap_or o k) ≡ later_of k o
    later None = refl
    later (Some x) = refl

module _ {K : Type 0} (cmp : K → K → Ordering) where
  pub onward-find : (b : K) (ks : List K) → head_of (keys_onward cmp b ks) ≡ find (λ k. not (is_lt (cmp k b))) ks
  onward-find b ks = head-find (λ k. is_ge (cmp k b)) ks ∙ find-alike (λ k. is_ge (cmp k b)) (λ k. not (is_lt (cmp k b))) ks (λ k. ge_not (cmp k b))

  pub entry_onward-find : {V : Type 0} (b : K) (es : List (K × V)) → head_of (onward cmp b es) ≡ find (λ e. not (is_lt (cmp e.0 b))) es
  entry_onward-find b es = head-find (λ e. is_ge (cmp e.0 b)) es ∙ find-alike (λ e. is_ge (cmp e.0 b)) (λ e. not (is_lt (cmp e.0 b))) es (λ e. ge_not (cmp e.0 b))

  module _ (order : IsKeyOrder cmp) (b : K) where
    pub past-find : (ks : List K) → head_of (keys_past cmp b ks) ≡ find (λ k. is_lt (cmp b k)) ks
    past-find ks = head-find (λ k. is_gt (cmp k b)) ks ∙ find-alike (λ k. is_gt (cmp k b)) (λ k. is_lt (cmp b k)) ks (λ k. gt_not (cmp k b) ∙ sym (lt_turned cmp order k b))

    none_up_to : (k : K) (ks : List K) → AllByRecursion (λ y. cmp k y ≡ Less) ks → cmp b k ≡ Less → keys_up_to cmp b ks ≡ []
    none_up_to k [] all above = refl
    none_up_to k (x ∷ xs) all above =
        let over : is_lt (cmp b x) ≡ true = ap is_lt (order.total.trans b k x above all.0) in
        let outside : is_le (cmp x b) ≡ false = is_not (is_lt (cmp b x)) (is_le (cmp x b)) (lt_turned cmp order x b) over in
        rw outside (none_up_to k xs all.1 above)

    up_to_same : (ks : List K) → IsStrictlySortedBy cmp ks → keys_up_to cmp b ks ≡ up_to cmp b ks
    unfolding IsStrictlySortedBy
    up_to_same [] asc = refl
    up_to_same (k ∷ ks) asc = cond_both (is_lt (cmp b k)) [] (k ∷ up_to cmp b ks) (λ l. keys_up_to cmp b (k ∷ ks) ≡ l)
        (λ above. rw (is_not (is_lt (cmp b k)) (is_le (cmp k b)) (lt_turned cmp order k b) above) (none_up_to k ks asc.0 (less_is (cmp b k) above)))
        (λ within. rw (not_is (is_lt (cmp b k)) (is_le (cmp k b)) (lt_turned cmp order k b) within) (ap (λ (l : List K). k ∷ l) (up_to_same ks asc.1)))

    pub last-up_to : (ks : List K) → IsStrictlySortedBy cmp ks → ranges.last_of (keys_up_to cmp b ks) ≡ last_of (up_to cmp b ks)
    last-up_to ks asc = last_same (keys_up_to cmp b ks) ∙ ap last_of (up_to_same ks asc)
