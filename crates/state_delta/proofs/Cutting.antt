-- Where two trees part.
use Rattle.std.proofs.Common.{◌≡◌, ℕ, ◌+◌, ◌-◌, ◌^◌, ◌<◌, ◌≤◌, Bool, true, false, ltb, leb, eqb, ◌++◌, length, length-append, Option, None, Some, refl, sym, ap, ◌∙◌, subst, arith, inl, inr}
use Rattle.std.specs.Borrow.{Bor}
use Rattle.std.specs.List.{Contains}
use Rattle.std.specs.Ordering.{nat_cmp}
use Rattle.std.proofs.lemmas.Bool.{ltb-true, ltb-false, leb-true, leb-false, eqb-true, eqb-false}
use Rattle.std.proofs.lemmas.List.Elements.{Contains-append_left, Contains-append_right}
use Rattle.std.proofs.lemmas.Nat.{pow_pos}
use Rattle.keyed.specs.Keyed.{at}
use Rattle.node_core.specs.Node.{NodeView}
use Rattle.node_key.specs.Place.{floor, Covers}
use Rattle.node_key.proofs.Floor.{covered, floor_of, floor_nests, aligned_below}
use Rattle.node_map.specs.Sound.{IsPlace, IsSound, IsBranch}
use Rattle.node_map.specs.TreeNode.{TreeView, branch_view, leaf_view}
use Rattle.node_map.proofs.Order.{at_key, at_above}
use Rattle.node_map.proofs.Trees.{contains_later, contains_none, two_halves, at_left, at_right, left_below, right_above}
use Rattle.state_delta.specs.Cut.{IsMiddle, IsBelow, IsFrom, IsAside, IsParted, PartsBoth, IsCut}

-- the inner place beside the middle of the outer one
module _ {la wa lb wb split : ℕ} (a : IsPlace la wa) (b : IsPlace lb wb) (narrower : wb ≤ wa) (inside : floor wa lb ≡ la) (positive : 0 < wa) (middle : split ≡ la + 2 ^ (wa - 1)) where
  inside_half : wb ≤ wa - 1 → lb < split → IsBelow split lb wb
  inside_half half lt =
      let c = covered wa lb in
      let from : floor wa lb ≤ lb = c.from in
      let here : floor (wa - 1) lb ≡ la = floor_of (wa - 1) la lb (aligned_below la (wa - 1) wa (omega arith) a.aligned) (record { from = omega arith; to = omega arith }) in
      let nests = floor_nests lb wb (wa - 1) half in
      let itself : floor wb lb ≡ lb = b.aligned in
      let end : floor wb lb + 2 ^ wb ≤ floor (wa - 1) lb + 2 ^ (wa - 1) = nests.1 in
      record { to = omega arith }

  parted_by : (same below : Bool) → leb wa wb ≡ same → ltb lb split ≡ below → IsParted split lb wb
  parted_by true below same_test below_test =
      let ge : wa ≤ wb = leb-true wa wb same_test in
      let width : wb ≡ wa = omega arith in
      let low : la ≡ lb = sym inside ∙ ap (λ w. floor w lb) (sym width) ∙ b.aligned in
      inl (record { positive = omega arith; middle = middle ∙ ap (λ z. z + 2 ^ (wa - 1)) low ∙ ap (λ w. lb + 2 ^ (w - 1)) (sym width) })
  parted_by false true same_test below_test = let lt : wb < wa = leb-false wa wb same_test in inr (inl (inside_half (omega arith) (ltb-true lb split below_test)))
  parted_by false false same_test below_test = inr (inr (record { from = ltb-false lb split below_test }))

  pub inner_parted : IsParted split lb wb
  inner_parted = parted_by (leb wa wb) (ltb lb split) refl refl

-- two places that don't meet
module _ {la wa lb wb : ℕ} (a : IsPlace la wa) (b : IsPlace lb wb) (not_a : (wb ≤ wa) × (floor wa lb ≡ la) → ⊥) where
  below_by : la < lb → (overlaps wider : Bool) → ltb lb (la + 2 ^ wa) ≡ overlaps → leb wb wa ≡ wider → IsBelow lb la wa
  below_by lt false wider overlap_test wide_test = record { to = ltb-false lb (la + 2 ^ wa) overlap_test }
  below_by lt true true overlap_test wide_test =
      let under : lb < la + 2 ^ wa = ltb-true lb (la + 2 ^ wa) overlap_test in
      absurd (not_a (leb-true wb wa wide_test, floor_of wa la lb a.aligned (record { from = omega arith; to = under })))
  below_by lt true false overlap_test wide_test =
      let under : lb < la + 2 ^ wa = ltb-true lb (la + 2 ^ wa) overlap_test in
      let wider : wa < wb = leb-false wb wa wide_test in
      let here : floor wa lb ≡ la = floor_of wa la lb a.aligned (record { from = omega arith; to = under }) in
      let itself : floor wa lb ≡ lb = aligned_below lb wa wb (omega arith) b.aligned in
      absurd (omega arith)

  pub apart_below : la < lb → IsBelow lb la wa
  apart_below lt = below_by lt (ltb lb (la + 2 ^ wa)) (leb wb wa) refl refl

  pub same_low : la ≡ lb → wb ≤ wa → ⊥
  same_low same narrower = not_a (narrower, ap (floor wa) (sym same) ∙ a.aligned)

strictly_by : (x y : ℕ) → x ≤ y → (x ≡ y → ⊥) → (test : Bool) → ltb x y ≡ test → x < y
strictly_by x y le apart true test = ltb-true x y test
strictly_by x y le apart false test = absurd (apart (omega (arith, ltb-false x y test)))

strictly : (x y : ℕ) → x ≤ y → (x ≡ y → ⊥) → x < y
strictly x y le apart = strictly_by x y le apart (ltb x y) refl

-- the first tree's place has the second one's
abbrev pub Holds : {T : Type 0} → TreeView T → TreeView T → Type 0
Holds outer inner = (inner.width ≤ outer.width) × (floor outer.width inner.low ≡ outer.low)

module _ {T : Type 0} {a b : TreeView T} (sound_a : IsSound a) (sound_b : IsSound b) where
  positive_by : (a.width ≡ 0 → b.width ≡ 0 → a.low ≡ b.low → ⊥) → Holds a b → (test : Bool) → ltb 0 a.width ≡ test → 0 < a.width
  positive_by apart holds true test = ltb-true 0 a.width test
  positive_by apart holds false test =
      let le : a.width ≤ 0 = ltb-false 0 a.width test in
      let narrower : b.width ≤ a.width = holds.0 in
      let a_zero : a.width ≡ 0 = omega arith in
      let b_zero : b.width ≡ 0 = omega arith in
      let aligned : floor b.width b.low ≡ b.low = sound_b.place.aligned in
      absurd (apart a_zero b_zero (sym holds.1 ∙ ap (λ w. floor w b.low) (a_zero ∙ sym b_zero) ∙ aligned))

  -- the one place has the other
  module _ (apart : a.width ≡ 0 → b.width ≡ 0 → a.low ≡ b.low → ⊥) (holds : Holds a b) {mark : ℕ} (mark_is : 0 < a.width → mark ≡ a.low + 2 ^ (a.width - 1)) where
    positive : 0 < a.width
    positive = positive_by apart holds (ltb 0 a.width) refl

    pub outer_middle : IsMiddle mark a.low a.width
    outer_middle = record { positive = positive; middle = mark_is positive }

    pub inner_side : IsParted mark b.low b.width
    inner_side = inner_parted sound_a.place sound_b.place holds.0 holds.1 positive (mark_is positive)

module _ {T : Type 0} {a b : TreeView T} (sound_a : IsSound a) (sound_b : IsSound b) where
  pub parts_first : (a.width ≡ 0 → b.width ≡ 0 → a.low ≡ b.low → ⊥) → Holds a b → {mark : ℕ} → (0 < a.width → mark ≡ a.low + 2 ^ (a.width - 1)) → PartsBoth mark a b
  parts_first apart holds {mark} mark_is =
      let middle = outer_middle sound_a sound_b apart holds mark_is in
      record { first = inl middle; second = inner_side sound_a sound_b apart holds mark_is; apart = inl (inl middle) }

  pub parts_second : (a.width ≡ 0 → b.width ≡ 0 → a.low ≡ b.low → ⊥) → Holds b a → {mark : ℕ} → (0 < b.width → mark ≡ b.low + 2 ^ (b.width - 1)) → PartsBoth mark a b
  parts_second apart holds {mark} mark_is =
      let turned : b.width ≡ 0 → a.width ≡ 0 → b.low ≡ a.low → ⊥ = λ b_zero a_zero same. apart a_zero b_zero (sym same) in
      let middle = outer_middle sound_b sound_a turned holds mark_is in
      record { first = inner_side sound_b sound_a turned holds mark_is; second = inl middle; apart = inl (inr middle) }

  module _ (not_first : Holds a b → ⊥) (not_second : Holds b a → ⊥) where
    pub parts_after : {split : ℕ} → split ≡ b.low → a.low < b.low → PartsBoth split a b
    parts_after {split} split_is lt =
        let below : IsBelow b.low a.low a.width = apart_below sound_a.place sound_b.place not_first lt in
        let from : IsFrom b.low b.low = record { from = omega arith } in
        subst (λ z. PartsBoth z a b) (sym split_is) (record { first = inr (inl below); second = inr (inr from); apart = inr (inl (record { below = below; from = from })) })

    not_same_by : a.low ≡ b.low → (test : Bool) → leb b.width a.width ≡ test → ⊥
    not_same_by same true test = same_low sound_a.place sound_b.place not_first same (leb-true b.width a.width test)
    not_same_by same false test = let lt = leb-false b.width a.width test in same_low sound_b.place sound_a.place not_second (sym same) (omega arith)

    pub parts_before : {split : ℕ} → split ≡ a.low → b.low ≤ a.low → PartsBoth split a b
    parts_before {split} split_is le =
        let not_same : a.low ≡ b.low → ⊥ = λ same. not_same_by same (leb b.width a.width) refl in
        let lt : b.low < a.low = strictly b.low a.low le (λ same. not_same (sym same)) in
        let below : IsBelow a.low b.low b.width = apart_below sound_b.place sound_a.place not_second lt in
        let from : IsFrom a.low a.low = record { from = omega arith } in
        subst (λ z. PartsBoth z a b) (sym split_is) (record { first = inr (inr from); second = inr (inl below); apart = inr (inr (record { below = below; from = from })) })

none_unless : {V : Type 0} (o : Option V) → ((v : V) → o ≡ Some v → ⊥) → o ≡ None
none_unless None never = refl
none_unless (Some v) never = absurd (never v refl)

power_below : (low width : ℕ) → low < low + 2 ^ width
power_below low width = let p = pow_pos width in omega arith

-- the tree's own entries and nodes, on either side
module _ {T : Type 0} (t : TreeView T) (sound : IsSound t) where
  none_outside : (key : ℕ) → (Covers t.low t.width key → ⊥) → at nat_cmp key t.entries ≡ None
  none_outside key outside = none_unless (at nat_cmp key t.entries) (λ v is. outside (at_key (Covers t.low t.width) key v t.entries sound.keys is))

module _ {T : Type 0} {split : ℕ} (tree : Bor (TreeView T)) (sound : IsSound tree.now) where
  pub cut_below : IsBelow split tree.now.low tree.now.width → IsCut split tree.now (Some tree) None
  cut_below below =
      let to : tree.now.low + 2 ^ tree.now.width ≤ split = below.to in
      let past : (key : ℕ) → split ≤ key → at nat_cmp key tree.now.entries ≡ None = λ key ge. none_outside tree.now sound key (λ c. let under = c.to in omega arith) in
      record {
        below_at = λ key lt. refl;
        rest_at = past;
        below_none = past;
        rest_none = λ key lt. refl;
        below_nodes = λ n h. h;
        rest_nodes = λ n h. absurd (contains_none n h);
        fewer = omega arith;
        halved = λ m. let pos : 0 < tree.now.width = m.positive in let mid : split ≡ tree.now.low + 2 ^ (tree.now.width - 1) = m.middle in let two = two_halves tree.now.width pos in let p = pow_pos (tree.now.width - 1) in absurd (omega arith);
        none_below = λ f. let from : split ≤ tree.now.low = f.from in let p = power_below tree.now.low tree.now.width in absurd (omega arith);
        none_from = λ b. refl;
      }

  pub cut_from : IsFrom split tree.now.low → IsCut split tree.now None (Some tree)
  cut_from from_it =
      let from : split ≤ tree.now.low = from_it.from in
      let under : (key : ℕ) → key < split → at nat_cmp key tree.now.entries ≡ None = λ key lt. none_outside tree.now sound key (λ c. let above = c.from in omega arith) in
      record {
        below_at = under;
        rest_at = λ key ge. refl;
        below_none = λ key ge. refl;
        rest_none = under;
        below_nodes = λ n h. absurd (contains_none n h);
        rest_nodes = λ n h. h;
        fewer = omega arith;
        halved = λ m. let pos : 0 < tree.now.width = m.positive in let mid : split ≡ tree.now.low + 2 ^ (tree.now.width - 1) = m.middle in let p = pow_pos (tree.now.width - 1) in absurd (omega arith);
        none_below = λ f. refl;
        none_from = λ b. let to : tree.now.low + 2 ^ tree.now.width ≤ split = b.to in let p = power_below tree.now.low tree.now.width in absurd (omega arith);
      }

-- a branch at its middle
module _ {T : Type 0} {t : TreeView T} {split : ℕ} (left right : Bor (TreeView T)) (b : IsBranch t.low split t.width left.now right.now) (view : branch_view t.low t.width t.generation left.now right.now ≡ t) where
  abbrev l : TreeView T
  l = left.now

  abbrev r : TreeView T
  r = right.now

  left_none : (key : ℕ) → split ≤ key → at nat_cmp key l.entries ≡ None
  left_none key ge = none_unless (at nat_cmp key l.entries) (λ v is. let lt : key < split = at_key (λ k. k < split) key v l.entries (left_below b) is in omega arith)

  count : length l.nodes + length r.nodes < length t.nodes
  count = omega (arith, length-append l.nodes r.nodes, ap (λ v. length v.nodes) view)

  pub cut_middle : IsCut split t (Some left) (Some right)
  cut_middle =
      let pos : 0 < t.width = b.positive in
      let mid : split ≡ t.low + 2 ^ (t.width - 1) = b.halves in
      let two = two_halves t.width pos in
      let p = pow_pos (t.width - 1) in
      let n = count in
      record {
        below_at = λ key lt. sym (ap (λ v. at nat_cmp key v.entries) view) ∙ at_left b key lt;
        rest_at = λ key ge. sym (ap (λ v. at nat_cmp key v.entries) view) ∙ at_right b key ge;
        below_none = left_none;
        rest_none = λ key lt. at_above key r.entries (right_above b key lt);
        below_nodes = λ n h. subst (λ v. Contains v.nodes n) view (contains_later _ n (l.nodes ++ r.nodes) (Contains-append_left l.nodes r.nodes n h));
        rest_nodes = λ n h. subst (λ v. Contains v.nodes n) view (contains_later _ n (l.nodes ++ r.nodes) (Contains-append_right l.nodes r.nodes n h));
        fewer = omega arith;
        halved = λ m. n;
        none_below = λ f. let from : split ≤ t.low = f.from in absurd (omega arith);
        none_from = λ b. let to : t.low + 2 ^ t.width ≤ split = b.to in absurd (omega arith);
      }

-- which side a tree is on
module _ {T : Type 0} {split low : ℕ} (tree : Bor (TreeView T)) (sound : IsSound tree.now) (low_is : low ≡ tree.now.low) (parted : IsAside split tree.now.low tree.now.width) where
  pub aside_below : {test : Bool} → test ≡ ltb low split → test ≡ true → IsCut split tree.now (Some tree) None
  aside_below {test} test_is holds =
      let lt : low < split = ltb-true low split (sym test_is ∙ holds) in
      elim parted [ inl below ↦ cut_below tree sound below | inr from ↦ absurd (let ge : split ≤ tree.now.low = from.from in omega arith) ]

  pub aside_from : {test : Bool} → test ≡ ltb low split → test ≡ false → IsCut split tree.now None (Some tree)
  aside_from {test} test_is fails =
      let ge : split ≤ low = ltb-false low split (sym test_is ∙ fails) in
      let p = pow_pos tree.now.width in
      elim parted [ inl below ↦ absurd (let to : tree.now.low + 2 ^ tree.now.width ≤ split = below.to in omega arith) | inr from ↦ cut_from tree sound from ]

-- a place that is parted, but not in its middle
pub leaf_aside : {T : Type 0} {t : TreeView T} {split key : ℕ} {node : NodeView T} → leaf_view key node ≡ t → IsParted split t.low t.width → IsAside split t.low t.width
leaf_aside {T} {t} {split} {key} {node} view parted = elim parted [
  | inl m ↦ absurd (let pos : 0 < t.width = m.positive in let zero : 0 ≡ t.width = ap (λ v. v.width) view in omega arith)
  | inr aside ↦ aside
]

pub branch_aside : {T : Type 0} (t : TreeView T) {l r : TreeView T} {split middle : ℕ} {test : Bool} → IsBranch t.low middle t.width l r → test ≡ eqb middle split → test ≡ false → IsParted split t.low t.width → IsAside split t.low t.width
branch_aside {T} t {l} {r} {split} {middle} {test} b test_is fails parted = elim parted [
  | inl m ↦ absurd (eqb-false middle split (sym test_is ∙ fails) (b.halves ∙ sym m.middle))
  | inr aside ↦ aside
]

pub branch_at : {T : Type 0} {t : TreeView T} {split middle : ℕ} {test : Bool} (left right : Bor (TreeView T)) → IsBranch t.low middle t.width left.now right.now → branch_view t.low t.width t.generation left.now right.now ≡ t → test ≡ eqb middle split → test ≡ true → IsCut split t (Some left) (Some right)
branch_at {T} {t} {split} {middle} {test} left right b view test_is holds =
    subst (λ z. IsCut z t (Some left) (Some right)) (eqb-true middle split (sym test_is ∙ holds)) (cut_middle left right b view)

-- the order of two first keys, by the test of their copies
pub first_lower : {x y a b : ℕ} {test : Bool} → a ≡ x → b ≡ y → test ≡ ltb a b → test ≡ true → x < y
first_lower {x} {y} {a} {b} {test} a_is b_is test_is holds = let lt = ltb-true a b (sym test_is ∙ holds) in omega arith

pub first_higher : {x y a b : ℕ} {test : Bool} → a ≡ x → b ≡ y → test ≡ ltb a b → test ≡ false → y ≤ x
first_higher {x} {y} {a} {b} {test} a_is b_is test_is fails = let le = ltb-false a b (sym test_is ∙ fails) in omega arith
