-- Entries that ascend by number, and the two halves of a tree.
use Rattle.std.proofs.Common.{◌≡◌, ◌≢◌, ℕ, ◌<◌, ◌≤◌, Bool, true, false, cond, ltb, List, [], ◌∷◌, ◌++◌, None, Some, refl, sym, ap, ◌∙◌, append-nil, arith, inl, inr}
use Rattle.std.specs.List.{All}
use Rattle.std.specs.Ordering.{nat_cmp, match_ordering, is_le, is_ge, is_gt}
use Rattle.std.specs.declared.cmp.Ordering.{Ordering}
use Rattle.std.specs.declared.cmp.Ordering.TheVariants.{Less, Equal, Greater}
use Rattle.std.proofs.lemmas.Bool.{cases_lt, lt-ltb, le-ltb, ne_eqb, eq-eqb}
use Rattle.std.proofs.lemmas.Cmp.{ranked}
use Rattle.std.proofs.lemmas.List.Elements.{All-nil, All-cons, All-head, All-tail, All-weaker, filter-append}
use Rattle.std.proofs.lemmas.Option.{none-some}
use Rattle.keyed.specs.Keyed.{at, put, without, IsBelow, Ascends}
use Rattle.keyed.specs.Ranges.{head_of, last_of, up_to, onward, past}
use Rattle.keyed.specs.RangeLaws.{filter_all, filter_none}
use Rattle.node_map.specs.Steps.{after}

-- what the order of numbers answers
pub cmp-lt : (x y : ℕ) → x < y → nat_cmp x y ≡ Less
cmp-lt x y lt = rw (lt-ltb x y lt) refl

pub cmp-gt : (x y : ℕ) → y < x → nat_cmp x y ≡ Greater
cmp-gt x y gt =
    let le : y ≤ x = omega arith in
    let apart : x ≢ y = omega arith in
    rw (le-ltb x y le, ne_eqb x y apart) refl

pub cmp-same : (x : ℕ) → nat_cmp x x ≡ Equal
cmp-same x = let le : x ≤ x = omega arith in rw (le-ltb x x le, eq-eqb x x refl) refl

pub lt_from_cmp : (x y : ℕ) → nat_cmp x y ≡ Less → x < y
lt_from_cmp x y less = rw less at (ranked x y (nat_cmp x y) refl)

-- what the tests of a bound answer
pub le_holds : (x y : ℕ) → x ≤ y → is_le (nat_cmp x y) ≡ true
le_holds x y le = elim (cases_lt x y) [
  | inl lt ↦ rw (cmp-lt x y lt) refl
  | inr ge ↦ let same : x ≡ y = omega arith in rw (same, cmp-same y) refl
]

pub le_fails : (x y : ℕ) → y < x → is_le (nat_cmp x y) ≡ false
le_fails x y gt = rw (cmp-gt x y gt) refl

pub ge_holds : (x y : ℕ) → y ≤ x → is_ge (nat_cmp x y) ≡ true
ge_holds x y ge = elim (cases_lt y x) [
  | inl gt ↦ rw (cmp-gt x y gt) refl
  | inr le ↦ let same : x ≡ y = omega arith in rw (same, cmp-same y) refl
]

pub ge_fails : (x y : ℕ) → x < y → is_ge (nat_cmp x y) ≡ false
ge_fails x y lt = rw (cmp-lt x y lt) refl

pub gt_holds : (x y : ℕ) → y < x → is_gt (nat_cmp x y) ≡ true
gt_holds x y gt = rw (cmp-gt x y gt) refl

pub gt_fails : (x y : ℕ) → x ≤ y → is_gt (nat_cmp x y) ≡ false
gt_fails x y le = elim (cases_lt x y) [
  | inl lt ↦ rw (cmp-lt x y lt) refl
  | inr ge ↦ let same : x ≡ y = omega arith in rw (same, cmp-same y) refl
]

module _ {V : Type 0} where
  -- the keys of a list are above, or below, a number
  abbrev pub Above : ℕ → List (ℕ × V) → Type 0
  Above k l = All (λ e. k < e.0) l

  abbrev pub Below : ℕ → List (ℕ × V) → Type 0
  Below k l = All (λ e. e.0 < k) l

  pub below_first : (k : ℕ) (l : List (ℕ × V)) → Above k l → IsBelow nat_cmp k l
  below_first k [] a = tt
  below_first k (e ∷ l) a = cmp-lt k e.0 (All-head (λ x. k < x.0) e l a)

  pub above_all : (k : ℕ) (l : List (ℕ × V)) → IsBelow nat_cmp k l → Ascends nat_cmp l → Above k l
  above_all k [] below ascends = All-nil (λ x. k < x.0)
  above_all k (e ∷ l) below ascends =
      let lt : k < e.0 = lt_from_cmp k e.0 below in
      All-cons (λ x. k < x.0) e l lt (All-weaker (λ x. e.0 < x.0) (λ x. k < x.0) (λ x h. omega arith) l (above_all e.0 l ascends.0 ascends.1))

  pub ascends_append : (l r : List (ℕ × V)) (s : ℕ) → Ascends nat_cmp l → Ascends nat_cmp r → Below s l → All (λ e. s ≤ e.0) r → Ascends nat_cmp (l ++ r)
  ascends_append [] r s ascends_l ascends_r below from = ascends_r
  ascends_append (e ∷ []) r s ascends_l ascends_r below from =
      let lt : e.0 < s = All-head (λ x. x.0 < s) e [] below in
      (below_first e.0 r (All-weaker (λ x. s ≤ x.0) (λ x. e.0 < x.0) (λ x h. omega arith) r from), ascends_r)
  ascends_append (e ∷ d ∷ l) r s ascends_l ascends_r below from = (ascends_l.0, ascends_append (d ∷ l) r s ascends_l.1 ascends_r (All-tail (λ x. x.0 < s) e (d ∷ l) below) from)

  -- look-ups
  pub at_above : (k : ℕ) (l : List (ℕ × V)) → Above k l → at nat_cmp k l ≡ None
  at_above k [] a = refl
  at_above k (e ∷ l) a = rw (cmp-lt k e.0 (All-head (λ x. k < x.0) e l a)) refl

  pub at_front : (k : ℕ) (l r : List (ℕ × V)) → Above k r → at nat_cmp k (l ++ r) ≡ at nat_cmp k l
  at_front k [] r a = at_above k r a
  at_front k (e ∷ l) r a = ap (λ o. match_ordering (nat_cmp k e.0) None (Some e.1) o) (at_front k l r a)

  pub at_back : (k : ℕ) (l r : List (ℕ × V)) → Below k l → at nat_cmp k (l ++ r) ≡ at nat_cmp k r
  at_back k [] r b = refl
  at_back k (e ∷ l) r b = rw (cmp-gt k e.0 (All-head (λ x. x.0 < k) e l b)) (at_back k l r (All-tail (λ x. x.0 < k) e l b))

  at_cases : (P : ℕ → Type 0) (k : ℕ) (v : V) (e : ℕ × V) (l : List (ℕ × V)) (o : Ordering) → o ≡ nat_cmp k e.0 → P e.0 → (at nat_cmp k l ≡ Some v → P k) → match_ordering o None (Some e.1) (at nat_cmp k l) ≡ Some v → P k
  at_cases P k v e l Less o_is here further is = absurd (none-some v is)
  at_cases P k v e l Equal o_is here further is = let same : k ≡ e.0 = ranked k e.0 Equal o_is in rw same here
  at_cases P k v e l Greater o_is here further is = further is

  -- what holds of each key holds of one that is found
  pub at_key : (P : ℕ → Type 0) (k : ℕ) (v : V) (l : List (ℕ × V)) → All (λ e. P e.0) l → at nat_cmp k l ≡ Some v → P k
  at_key P k v [] a is = absurd (none-some v is)
  at_key P k v (e ∷ l) a is = at_cases P k v e l (nat_cmp k e.0) refl (All-head (λ x. P x.0) e l a) (λ h. at_key P k v l (All-tail (λ x. P x.0) e l a) h) is

  -- puts
  pub put_first : (k : ℕ) (v : V) (l : List (ℕ × V)) → Above k l → put nat_cmp k v l ≡ (k, v) ∷ l
  put_first k v [] a = refl
  put_first k v (e ∷ l) a = rw (cmp-lt k e.0 (All-head (λ x. k < x.0) e l a)) refl

  put_cases : (o : Ordering) (n e : ℕ × V) (l u r w : List (ℕ × V)) → w ≡ u ++ r → match_ordering o (n ∷ e ∷ (l ++ r)) (n ∷ (l ++ r)) (e ∷ w) ≡ match_ordering o (n ∷ e ∷ l) (n ∷ l) (e ∷ u) ++ r
  put_cases Less n e l u r w same = refl
  put_cases Equal n e l u r w same = refl
  put_cases Greater n e l u r w same = ap (λ z. e ∷ z) same

  pub put_front : (k : ℕ) (v : V) (l r : List (ℕ × V)) → Above k r → put nat_cmp k v (l ++ r) ≡ put nat_cmp k v l ++ r
  put_front k v [] r a = put_first k v r a
  put_front k v (e ∷ l) r a = put_cases (nat_cmp k e.0) (k, v) e l (put nat_cmp k v l) r _ (put_front k v l r a)

  pub put_back : (k : ℕ) (v : V) (l r : List (ℕ × V)) → Below k l → put nat_cmp k v (l ++ r) ≡ l ++ put nat_cmp k v r
  put_back k v [] r b = refl
  put_back k v (e ∷ l) r b = rw (cmp-gt k e.0 (All-head (λ x. x.0 < k) e l b)) (ap (λ z. e ∷ z) (put_back k v l r (All-tail (λ x. x.0 < k) e l b)))

  -- removals
  without_above : (k : ℕ) (l : List (ℕ × V)) → Above k l → without nat_cmp k l ≡ l
  without_above k [] a = refl
  without_above k (e ∷ l) a = rw (cmp-lt k e.0 (All-head (λ x. k < x.0) e l a)) refl

  without_cases : (o : Ordering) (e : ℕ × V) (l u r w : List (ℕ × V)) → w ≡ u ++ r → match_ordering o (e ∷ (l ++ r)) (l ++ r) (e ∷ w) ≡ match_ordering o (e ∷ l) l (e ∷ u) ++ r
  without_cases Less e l u r w same = refl
  without_cases Equal e l u r w same = refl
  without_cases Greater e l u r w same = ap (λ z. e ∷ z) same

  pub without_front : (k : ℕ) (l r : List (ℕ × V)) → Above k r → without nat_cmp k (l ++ r) ≡ without nat_cmp k l ++ r
  without_front k [] r a = without_above k r a
  without_front k (e ∷ l) r a = without_cases (nat_cmp k e.0) e l (without nat_cmp k l) r _ (without_front k l r a)

  pub without_back : (k : ℕ) (l r : List (ℕ × V)) → Below k l → without nat_cmp k (l ++ r) ≡ l ++ without nat_cmp k r
  without_back k [] r b = refl
  without_back k (e ∷ l) r b = rw (cmp-gt k e.0 (All-head (λ x. x.0 < k) e l b)) (ap (λ z. e ∷ z) (without_back k l r (All-tail (λ x. x.0 < k) e l b)))

  -- the first entry past a key
  first_after : (k : ℕ) (r : List (ℕ × V)) → Above k r → after k r ≡ head_of r
  first_after k [] a = refl
  first_after k (e ∷ r) a = rw (lt-ltb k e.0 (All-head (λ x. k < x.0) e r a)) refl

  after_none_cases : (k : ℕ) (e : ℕ × V) (l r : List (ℕ × V)) (b : Bool) → (after k l ≡ None → after k (l ++ r) ≡ head_of r) → cond b (Some e) (after k l) ≡ None → cond b (Some e) (after k (l ++ r)) ≡ head_of r
  after_none_cases k e l r true further none = absurd (none-some e (sym none))
  after_none_cases k e l r false further none = further none

  pub after_none : (k : ℕ) (l r : List (ℕ × V)) → Above k r → after k l ≡ None → after k (l ++ r) ≡ head_of r
  after_none k [] r a none = first_after k r a
  after_none k (e ∷ l) r a none = after_none_cases k e l r (ltb k e.0) (after_none k l r a) none

  after_some_cases : (k : ℕ) (e x : ℕ × V) (l r : List (ℕ × V)) (b : Bool) → (after k l ≡ Some x → after k (l ++ r) ≡ Some x) → cond b (Some e) (after k l) ≡ Some x → cond b (Some e) (after k (l ++ r)) ≡ Some x
  after_some_cases k e x l r true further some = some
  after_some_cases k e x l r false further some = further some

  pub after_some : (k : ℕ) (x : ℕ × V) (l r : List (ℕ × V)) → after k l ≡ Some x → after k (l ++ r) ≡ Some x
  after_some k x [] r some = absurd (none-some x some)
  after_some k x (e ∷ l) r some = after_some_cases k e x l r (ltb k e.0) (after_some k x l r) some

  pub after_back : (k : ℕ) (l r : List (ℕ × V)) → All (λ e. e.0 ≤ k) l → after k (l ++ r) ≡ after k r
  after_back k [] r a = refl
  after_back k (e ∷ l) r a = rw (le-ltb k e.0 (All-head (λ x. x.0 ≤ k) e l a)) (after_back k l r (All-tail (λ x. x.0 ≤ k) e l a))

  -- the first of two lists has the first entry
  pub first_append : {x : ℕ × V} (l r : List (ℕ × V)) → Some x ≡ head_of l → Some x ≡ head_of (l ++ r)
  first_append {x} [] r some = absurd (none-some x (sym some))
  first_append {x} (e ∷ l) r some = some

  pub after_past : (k : ℕ) (l : List (ℕ × V)) → after k l ≡ head_of (past nat_cmp k l)
  after_past k [] = refl
  after_past k (e ∷ l) = elim (cases_lt k e.0) [
    | inl lt ↦ rw (lt-ltb k e.0 lt, cmp-gt e.0 k lt) refl
    | inr le ↦ rw (le-ltb k e.0 le, gt_fails e.0 k le) (after_past k l)
  ]

  -- the entries up to a key
  pub up_to_front : (k : ℕ) (l r : List (ℕ × V)) → Above k r → up_to nat_cmp k (l ++ r) ≡ up_to nat_cmp k l
  up_to_front k l r a =
      filter-append (λ e. is_le (nat_cmp e.0 k)) l r
      ∙ ap (λ z. up_to nat_cmp k l ++ z) (filter_none (λ e. is_le (nat_cmp e.0 k)) r (All-weaker (λ x. k < x.0) (λ x. is_le (nat_cmp x.0 k) ≡ false) (λ x h. le_fails x.0 k h) r a))
      ∙ append-nil (up_to nat_cmp k l)

  pub up_to_back : (k : ℕ) (l r : List (ℕ × V)) → All (λ e. e.0 ≤ k) l → up_to nat_cmp k (l ++ r) ≡ l ++ up_to nat_cmp k r
  up_to_back k l r a =
      filter-append (λ e. is_le (nat_cmp e.0 k)) l r
      ∙ ap (λ z. z ++ up_to nat_cmp k r) (filter_all (λ e. is_le (nat_cmp e.0 k)) l (All-weaker (λ x. x.0 ≤ k) (λ x. is_le (nat_cmp x.0 k) ≡ true) (λ x h. le_holds x.0 k h) l a))

  pub last_one : (k : ℕ) (e : ℕ × V) → e.0 ≤ k → last_of (up_to nat_cmp k (e ∷ [])) ≡ Some e
  last_one k e le = rw (le_holds e.0 k le) refl

  pub last_no_one : (k : ℕ) (e : ℕ × V) → k < e.0 → last_of (up_to nat_cmp k (e ∷ [])) ≡ None
  last_no_one k e lt = rw (le_fails e.0 k lt) refl

  -- the entries from a key on
  pub onward_front : (k : ℕ) (l r : List (ℕ × V)) → All (λ e. k ≤ e.0) r → onward nat_cmp k (l ++ r) ≡ onward nat_cmp k l ++ r
  onward_front k l r a =
      filter-append (λ e. is_ge (nat_cmp e.0 k)) l r
      ∙ ap (λ z. onward nat_cmp k l ++ z) (filter_all (λ e. is_ge (nat_cmp e.0 k)) r (All-weaker (λ x. k ≤ x.0) (λ x. is_ge (nat_cmp x.0 k) ≡ true) (λ x h. ge_holds x.0 k h) r a))

  pub onward_back : (k : ℕ) (l r : List (ℕ × V)) → Below k l → onward nat_cmp k (l ++ r) ≡ onward nat_cmp k r
  onward_back k l r a =
      filter-append (λ e. is_ge (nat_cmp e.0 k)) l r
      ∙ ap (λ z. z ++ onward nat_cmp k r) (filter_none (λ e. is_ge (nat_cmp e.0 k)) l (All-weaker (λ x. x.0 < k) (λ x. is_ge (nat_cmp x.0 k) ≡ false) (λ x h. ge_fails x.0 k h) l a))

  pub onward_one : (k : ℕ) (e : ℕ × V) → k ≤ e.0 → onward nat_cmp k (e ∷ []) ≡ e ∷ []
  onward_one k e le = rw (ge_holds e.0 k le) refl

  pub onward_no_one : (k : ℕ) (e : ℕ × V) → e.0 < k → onward nat_cmp k (e ∷ []) ≡ []
  onward_no_one k e lt = rw (ge_fails e.0 k lt) refl
