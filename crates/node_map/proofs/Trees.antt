-- What holds of trees, leaf by leaf and branch by branch.
use Rattle.std.proofs.Common.{◌≡◌, ℕ, zero, suc, ◌+◌, ◌-◌, ◌*◌, ◌/◌, ◌^◌, ◌<◌, ◌≤◌, ◌⊎◌, Bool, true, false, cond, ltb, leb, ◌&&◌, get_or, List, [], ◌∷◌, ◌++◌, length, length-append, None, refl, sym, ap, ◌∙◌, subst, arith, inl, inr}
use Rattle.std.specs.List.{All, Contains, count_by}
use Rattle.std.specs.Ordering.{nat_cmp}
use Rattle.std.proofs.lemmas.Bool.{ltb-true, ltb-false, le-ltb, lt-leb}
use Rattle.std.proofs.lemmas.List.Elements.{All-nil, All-cons, All-head, All-tail, All-weaker, All-append, All-contains, Contains-append_left, Contains-append_right, Contains-append_cases}
use Rattle.std.proofs.lemmas.List.Sums.{sum_by-cons, sum_by-append}
use Rattle.std.proofs.lemmas.Nat.{pow_pos, pow-add, shl-shr}
use Rattle.keyed.specs.Keyed.{at}
use Rattle.node_core.specs.Node.{NodeView}
use Rattle.node_key.specs.Place.{floor, Covers, Encloses}
use Rattle.node_key.proofs.Floor.{covered, floor_of, aligned_below}
use Rattle.keyed.specs.Ranges.{head_of, onward, up_to}
use Rattle.node_map.specs.Steps.{after}
use Rattle.node_map.specs.TreeNode.{TreeNode, TreeView, is_on_path, leaf_view, branch_view}
use Rattle.node_map.specs.Sound.{AreSingle, HasLeaf, IsPlace, IsSound, IsBranch}
use Rattle.node_map.proofs.Order.{Above, Below, ascends_append, at_front, at_back, after_none, after_back, onward_front, onward_back, up_to_front, up_to_back}

-- one more at the front
pub contains_here : {X : Type 0} (x : X) (xs : List X) → Contains (x ∷ xs) x
contains_here x xs = (0, (omega arith), refl)

pub contains_later : {X : Type 0} (x y : X) (xs : List X) → Contains xs y → Contains (x ∷ xs) y
contains_later x y xs h = (suc h.0, (omega (arith, h.1)), h.2)

cases_at : {X : Type 0} (x y : X) (xs : List X) (k : ℕ) → k < length (x ∷ xs) → get_or (x ∷ xs) k y ≡ y → (x ≡ y) ⊎ Contains xs y
cases_at x y xs zero lt is = inl is
cases_at x y xs (suc k) lt is = inr (k, (omega arith), is)

pub contains_cases : {X : Type 0} (x y : X) (xs : List X) → Contains (x ∷ xs) y → (x ≡ y) ⊎ Contains xs y
contains_cases x y xs h = cases_at x y xs h.0 h.1 h.2

pub contains_none : {X : Type 0} (y : X) → Contains [] y → ⊥
contains_none y h = let lt : h.0 < 0 = h.1 in omega arith

-- a width's power is two of the next narrower
twice : (v : ℕ) → 2 ^ (v + 1) ≡ 2 ^ v + 2 ^ v
twice v = let e : 2 ^ (v + 1) ≡ 2 ^ v * 2 ^ 1 = pow-add 2 v 1 in omega arith

pub two_halves : (w : ℕ) → 0 < w → 2 ^ w ≡ 2 ^ (w - 1) + 2 ^ (w - 1)
two_halves w pos = let e : w - 1 + 1 ≡ w = omega arith in subst (λ z. 2 ^ z ≡ 2 ^ (w - 1) + 2 ^ (w - 1)) e (twice (w - 1))

pub floor_zero : (n : ℕ) → floor 0 n ≡ n
floor_zero n =
    let c = covered 0 n in
    let from : floor 0 n ≤ n = c.from in
    let to : n < floor 0 n + 1 = c.to in
    omega arith

pub encloses_same : (low width : ℕ) → Encloses low width low width
encloses_same low width = record { from_low = omega arith; to_end = omega arith; narrower = omega arith }

pub encloses_trans : {a u b v c w : ℕ} → Encloses a u b v → Encloses b v c w → Encloses a u c w
encloses_trans {a} {u} {b} {v} {c} {w} outer inner =
    let p = outer.from_low in
    let q = outer.to_end in
    let r = outer.narrower in
    let x = inner.from_low in
    let y = inner.to_end in
    let z = inner.narrower in
    record { from_low = omega arith; to_end = omega arith; narrower = omega arith }

pub covers_within : {a u b v k : ℕ} → Encloses a u b v → Covers b v k → Covers a u k
covers_within {a} {u} {b} {v} {k} outer inner =
    let p = outer.from_low in
    let q = outer.to_end in
    let x = inner.from in
    let y = inner.to in
    record { from = omega arith; to = omega arith }

abbrev one_if : Bool → ℕ
one_if b = cond b 1 0

one_or_none : (b : Bool) → one_if b ≤ 1
one_or_none true = omega arith
one_or_none false = omega arith

none_if_both : (b : Bool) → one_if (b && false) ≡ 0
none_if_both true = refl
none_if_both false = refl

leaf_place : (key : ℕ) → IsPlace key 0
leaf_place key = record { aligned = floor_zero key; fits = omega arith }

module _ {T : Type 0} where
  -- how many nodes are on a key's path
  abbrev pub on_path : ℕ → List (TreeNode T) → ℕ
  on_path key nodes = count_by (is_on_path key) nodes

  on_path-cons : (key : ℕ) (n : TreeNode T) (ns : List (TreeNode T)) → on_path key (n ∷ ns) ≡ one_if (is_on_path key n) + on_path key ns
  on_path-cons key n ns = sum_by-cons (λ (m : TreeNode T). one_if (is_on_path key m)) n ns

  at_most_one_more : (key : ℕ) (n : TreeNode T) (ns : List (TreeNode T)) → on_path key (n ∷ ns) ≤ on_path key ns + 1
  at_most_one_more key n ns =
      let step = on_path-cons key n ns in
      let one = one_or_none (is_on_path key n) in
      omega arith

  on_path-append : (key : ℕ) (l r : List (TreeNode T)) → on_path key (l ++ r) ≡ on_path key l + on_path key r
  on_path-append key l r = sum_by-append (λ (n : TreeNode T). one_if (is_on_path key n)) l r

  -- no node is on the path of a key outside of the place that they are in
  none_below : (key low width : ℕ) (ns : List (TreeNode T)) → All (λ n. Encloses low width n.low n.width) ns → key < low → on_path key ns ≡ 0
  none_below key low width [] all lt = refl
  none_below key low width (n ∷ ns) all lt =
      let here : Encloses low width n.low n.width = All-head (λ (m : TreeNode T). Encloses low width m.low m.width) n ns all in
      let from : low ≤ n.low = here.from_low in
      let off : one_if (is_on_path key n) ≡ 0 = rw (lt-leb n.low key (omega arith)) refl in
      let further = none_below key low width ns (All-tail (λ (m : TreeNode T). Encloses low width m.low m.width) n ns all) lt in
      let step = on_path-cons key n ns in
      omega arith

  none_above : (key low width : ℕ) (ns : List (TreeNode T)) → All (λ n. Encloses low width n.low n.width) ns → low + 2 ^ width ≤ key → on_path key ns ≡ 0
  none_above key low width [] all ge = refl
  none_above key low width (n ∷ ns) all ge =
      let here : Encloses low width n.low n.width = All-head (λ (m : TreeNode T). Encloses low width m.low m.width) n ns all in
      let to : n.low + 2 ^ n.width ≤ low + 2 ^ width = here.to_end in
      let further = none_above key low width ns (All-tail (λ (m : TreeNode T). Encloses low width m.low m.width) n ns all) ge in
      let off : one_if (is_on_path key n) ≡ 0 = rw (le-ltb key (n.low + 2 ^ n.width) (omega arith)) (none_if_both (leb n.low key)) in
      let step = on_path-cons key n ns in
      omega arith

  within_wider : {a u b v : ℕ} (ns : List (TreeNode T)) → Encloses a u b v → All (λ n. Encloses b v n.low n.width) ns → All (λ n. Encloses a u n.low n.width) ns
  within_wider {a} {u} {b} {v} ns outer all = All-weaker (λ (n : TreeNode T). Encloses b v n.low n.width) (λ (n : TreeNode T). Encloses a u n.low n.width) (λ n inner. encloses_trans outer inner) ns all

  pub leaf_sound : (key : ℕ) (node : NodeView T) → IsSound (leaf_view key node)
  leaf_sound key node =
      let root : TreeNode T = record { low = key; width = 0; generation = node.generation; entries = (key, node) ∷ [] } in
      record {
        place = leaf_place key;
        root = contains_here root [];
        keys = All-cons (λ (e : ℕ × NodeView T). Covers key 0 e.0) (key, node) [] (record { from = omega arith; to = omega arith }) (All-nil (λ (e : ℕ × NodeView T). Covers key 0 e.0));
        within = All-cons (λ (n : TreeNode T). Encloses key 0 n.low n.width) root [] (encloses_same key 0) (All-nil (λ (n : TreeNode T). Encloses key 0 n.low n.width));
        places = All-cons (λ (n : TreeNode T). IsPlace n.low n.width) root [] (leaf_place key) (All-nil (λ (n : TreeNode T). IsPlace n.low n.width));
        ascends = (tt, tt);
        leaves = All-cons (HasLeaf (root ∷ [])) (key, node) [] (contains_here root []) (All-nil (HasLeaf (root ∷ [])));
        paths = λ k. at_most_one_more k root [];
        single = record {
          each = λ m n has_m has_n low_is width_is. elim (contains_cases root m [] has_m) [
            | inl m_root ↦ elim (contains_cases root n [] has_n) [ inl n_root ↦ sym m_root ∙ n_root | inr none ↦ absurd (contains_none n none) ]
            | inr none ↦ absurd (contains_none m none)
          ];
        };
      }

  -- a place's two halves
  module _ {low split width : ℕ} {l r : TreeView T} (b : IsBranch low split width l r) where
    pos : 0 < width
    pos = b.positive

    split_is : split ≡ low + 2 ^ (width - 1)
    split_is = b.halves

    whole : 2 ^ width ≡ 2 ^ (width - 1) + 2 ^ (width - 1)
    whole = two_halves width pos

    pub left_half : Encloses low width low (width - 1)
    left_half =
        let w = whole in
        let p = pos in
        record { from_low = omega arith; to_end = omega arith; narrower = omega arith }

    pub right_half : Encloses low width split (width - 1)
    right_half =
        let w = whole in
        let s = split_is in
        let p = pos in
        record { from_low = omega arith; to_end = omega arith; narrower = omega arith }

    pub left_place : Encloses low width l.low l.width
    left_place = encloses_trans left_half b.left_within

    pub right_place : Encloses low width r.low r.width
    right_place = encloses_trans right_half b.right_within

    pub left_below : Below split l.entries
    left_below =
        let s = split_is in
        let to = b.left_within.to_end in
        All-weaker (λ (e : ℕ × NodeView T). Covers l.low l.width e.0) (λ (e : ℕ × NodeView T). e.0 < split) (λ e h. let below = h.to in omega arith) l.entries b.left_sound.keys

    pub right_from : All (λ e. split ≤ e.0) r.entries
    right_from =
        let from = b.right_within.from_low in
        All-weaker (λ (e : ℕ × NodeView T). Covers r.low r.width e.0) (λ (e : ℕ × NodeView T). split ≤ e.0) (λ e h. let above = h.from in omega arith) r.entries b.right_sound.keys

    pub right_above : (key : ℕ) → key < split → Above key r.entries
    right_above key lt = All-weaker (λ (e : ℕ × NodeView T). split ≤ e.0) (λ (e : ℕ × NodeView T). key < e.0) (λ e h. omega arith) r.entries right_from

    pub left_before : (key : ℕ) → split ≤ key → Below key l.entries
    left_before key ge = All-weaker (λ (e : ℕ × NodeView T). e.0 < split) (λ (e : ℕ × NodeView T). e.0 < key) (λ e h. omega arith) l.entries left_below

    few : (k : ℕ) (test : Bool) → ltb k split ≡ test → on_path k (l.nodes ++ r.nodes) ≤ width
    few k true test =
        let lt : k < split = ltb-true k split test in
        let from = b.right_within.from_low in
        let none = none_below k r.low r.width r.nodes b.right_sound.within (omega arith) in
        let some = b.left_sound.paths k in
        let narrower = b.left_within.narrower in
        let p = pos in
        omega (arith, on_path-append k l.nodes r.nodes)
    few k false test =
        let ge : split ≤ k = ltb-false k split test in
        let to = b.left_within.to_end in
        let s = split_is in
        let none = none_above k l.low l.width l.nodes b.left_sound.within (omega arith) in
        let some = b.right_sound.paths k in
        let narrower = b.right_within.narrower in
        let p = pos in
        omega (arith, on_path-append k l.nodes r.nodes)

    side_of : (n : TreeNode T) → Contains (l.nodes ++ r.nodes) n → (Contains l.nodes n × Encloses low (width - 1) n.low n.width) ⊎ (Contains r.nodes n × Encloses split (width - 1) n.low n.width)
    side_of n h = elim (Contains-append_cases l.nodes r.nodes n h) [
      | inl in_left ↦ inl (in_left, encloses_trans b.left_within (All-contains (λ (z : TreeNode T). Encloses l.low l.width z.low z.width) l.nodes n b.left_sound.within in_left))
      | inr in_right ↦ inr (in_right, encloses_trans b.right_within (All-contains (λ (z : TreeNode T). Encloses r.low r.width z.low z.width) r.nodes n b.right_sound.within in_right))
    ]

    below_root : (n : TreeNode T) → Contains (l.nodes ++ r.nodes) n → n.width < width
    below_root n h =
        let po = pos in
        elim (side_of n h) [
          | inl x ↦ let narrower = x.1.narrower in omega arith
          | inr x ↦ let narrower = x.1.narrower in omega arith
        ]

    apart : (m n : TreeNode T) → Encloses low (width - 1) m.low m.width → Encloses split (width - 1) n.low n.width → m.low ≡ n.low → ⊥
    apart m n left right low_is =
        let s = split_is in
        let to = left.to_end in
        let from = right.from_low in
        let positive = pow_pos m.width in
        omega arith

    single_below : (m n : TreeNode T) → Contains (l.nodes ++ r.nodes) m → Contains (l.nodes ++ r.nodes) n → m.low ≡ n.low → m.width ≡ n.width → m ≡ n
    single_below m n has_m has_n low_is width_is = elim (side_of m has_m) [
      | inl x ↦ elim (side_of n has_n) [ inl y ↦ b.left_sound.single.each m n x.0 y.0 low_is width_is | inr y ↦ absurd (apart m n x.1 y.1 low_is) ]
      | inr x ↦ elim (side_of n has_n) [ inl y ↦ absurd (apart n m y.1 x.1 (sym low_is)) | inr y ↦ b.right_sound.single.each m n x.0 y.0 low_is width_is ]
    ]

    -- the branch's own node, over those of its halves
    abbrev root : ℕ → TreeNode T
    root generation = record { low = low; width = width; generation = generation; entries = l.entries ++ r.entries }

    single_nodes : (generation : ℕ) → AreSingle (branch_view low width generation l r).nodes
    single_nodes generation = record {
      each = λ m n has_m has_n low_is width_is. elim (contains_cases (root generation) m (l.nodes ++ r.nodes) has_m) [
        | inl m_root ↦ elim (contains_cases (root generation) n (l.nodes ++ r.nodes) has_n) [
          | inl n_root ↦ sym m_root ∙ n_root
          | inr n_below ↦ absurd (omega (arith, below_root n n_below, ap (λ z. z.width) m_root))
        ]
        | inr m_below ↦ elim (contains_cases (root generation) n (l.nodes ++ r.nodes) has_n) [
          | inl n_root ↦ absurd (omega (arith, below_root m m_below, ap (λ z. z.width) n_root))
          | inr n_below ↦ single_below m n m_below n_below low_is width_is
        ]
      ];
    }

    leaves_below : (generation : ℕ) → All (HasLeaf (branch_view low width generation l r).nodes) (l.entries ++ r.entries)
    leaves_below generation = All-append (HasLeaf (root generation ∷ l.nodes ++ r.nodes)) l.entries r.entries
        (All-weaker (HasLeaf l.nodes) (HasLeaf (root generation ∷ l.nodes ++ r.nodes)) (λ e h. contains_later (root generation) _ (l.nodes ++ r.nodes) (Contains-append_left l.nodes r.nodes _ h)) l.entries b.left_sound.leaves)
        (All-weaker (HasLeaf r.nodes) (HasLeaf (root generation ∷ l.nodes ++ r.nodes)) (λ e h. contains_later (root generation) _ (l.nodes ++ r.nodes) (Contains-append_right l.nodes r.nodes _ h)) r.entries b.right_sound.leaves)

    pub branch_sound : (generation : ℕ) → IsSound (branch_view low width generation l r)
    branch_sound generation = record {
      place = b.place;
      root = contains_here (root generation) (l.nodes ++ r.nodes);
      keys = All-append (λ (e : ℕ × NodeView T). Covers low width e.0) l.entries r.entries
          (All-weaker (λ (e : ℕ × NodeView T). Covers l.low l.width e.0) (λ (e : ℕ × NodeView T). Covers low width e.0) (λ e h. covers_within left_place h) l.entries b.left_sound.keys)
          (All-weaker (λ (e : ℕ × NodeView T). Covers r.low r.width e.0) (λ (e : ℕ × NodeView T). Covers low width e.0) (λ e h. covers_within right_place h) r.entries b.right_sound.keys);
      within = All-cons (λ (n : TreeNode T). Encloses low width n.low n.width) (root generation) (l.nodes ++ r.nodes) (encloses_same low width) (All-append (λ (n : TreeNode T). Encloses low width n.low n.width) l.nodes r.nodes (within_wider l.nodes left_place b.left_sound.within) (within_wider r.nodes right_place b.right_sound.within));
      places = All-cons (λ (n : TreeNode T). IsPlace n.low n.width) (root generation) (l.nodes ++ r.nodes) b.place (All-append (λ (n : TreeNode T). IsPlace n.low n.width) l.nodes r.nodes b.left_sound.places b.right_sound.places);
      ascends = ascends_append l.entries r.entries split b.left_sound.ascends b.right_sound.ascends left_below right_from;
      leaves = leaves_below generation;
      paths = λ k. let f = few k (ltb k split) refl in let m = at_most_one_more k (root generation) (l.nodes ++ r.nodes) in omega arith;
      single = single_nodes generation;
    }

    -- the half of a key of the place
    pub on_left : (key : ℕ) → floor width key ≡ low → key < split → floor (width - 1) key ≡ low
    on_left key here lt =
        let s = split_is in
        let c = covered width key in
        let from : floor width key ≤ key = c.from in
        let p = pos in
        floor_of (width - 1) low key (aligned_below low (width - 1) width (omega arith) b.place.aligned) (record { from = omega arith; to = omega arith })

    split_aligned : floor (width - 1) split ≡ split
    split_aligned =
        let s = split_is in
        let a : floor (width - 1) low ≡ low = aligned_below low (width - 1) width (omega arith) b.place.aligned in
        let e : (low / 2 ^ (width - 1) + 1) * 2 ^ (width - 1) ≡ split = omega arith in
        subst (λ z. floor (width - 1) z ≡ z) e (ap (λ q. q * 2 ^ (width - 1)) (shl-shr (low / 2 ^ (width - 1) + 1) (width - 1)))

    pub on_right : (key : ℕ) → floor width key ≡ low → split ≤ key → floor (width - 1) key ≡ split
    on_right key here ge =
        let s = split_is in
        let c = covered width key in
        let to : key < floor width key + 2 ^ width = c.to in
        let p = pos in
        let w = whole in
        floor_of (width - 1) split key split_aligned (record { from = omega arith; to = omega arith })

    -- the halves have fewer nodes
    pub fewer_left : {generation : ℕ} {t : TreeView T} → branch_view low width generation l r ≡ t → length l.nodes < length t.nodes
    fewer_left {generation} {t} view = omega (arith, length-append l.nodes r.nodes, ap (λ v. length v.nodes) view)

    pub fewer_right : {generation : ℕ} {t : TreeView T} → branch_view low width generation l r ≡ t → length r.nodes < length t.nodes
    fewer_right {generation} {t} view = omega (arith, length-append l.nodes r.nodes, ap (λ v. length v.nodes) view)

    -- what the look-ups read
    pub at_left : (key : ℕ) → key < split → at nat_cmp key (l.entries ++ r.entries) ≡ at nat_cmp key l.entries
    at_left key lt = at_front key l.entries r.entries (right_above key lt)

    pub at_right : (key : ℕ) → split ≤ key → at nat_cmp key (l.entries ++ r.entries) ≡ at nat_cmp key r.entries
    at_right key ge = at_back key l.entries r.entries (left_before key ge)

    pub after_left_none : (key : ℕ) → key < split → after key l.entries ≡ None → after key (l.entries ++ r.entries) ≡ head_of r.entries
    after_left_none key lt none = after_none key l.entries r.entries (right_above key lt) none

    pub after_right : (key : ℕ) → split ≤ key → after key (l.entries ++ r.entries) ≡ after key r.entries
    after_right key ge = after_back key l.entries r.entries (All-weaker (λ (e : ℕ × NodeView T). e.0 < split) (λ (e : ℕ × NodeView T). e.0 ≤ key) (λ e below. omega arith) l.entries left_below)

    pub up_to_left : (key : ℕ) → key < split → up_to nat_cmp key (l.entries ++ r.entries) ≡ up_to nat_cmp key l.entries
    up_to_left key lt = up_to_front key l.entries r.entries (right_above key lt)

    pub up_to_right : (key : ℕ) → split ≤ key → up_to nat_cmp key (l.entries ++ r.entries) ≡ l.entries ++ up_to nat_cmp key r.entries
    up_to_right key ge = up_to_back key l.entries r.entries (All-weaker (λ (e : ℕ × NodeView T). e.0 < split) (λ (e : ℕ × NodeView T). e.0 ≤ key) (λ e below. omega arith) l.entries left_below)

    pub onward_left : (key : ℕ) → key < split → onward nat_cmp key (l.entries ++ r.entries) ≡ onward nat_cmp key l.entries ++ r.entries
    onward_left key lt = onward_front key l.entries r.entries (All-weaker (λ (e : ℕ × NodeView T). split ≤ e.0) (λ (e : ℕ × NodeView T). key ≤ e.0) (λ e above. omega arith) r.entries right_from)

    pub onward_right : (key : ℕ) → split ≤ key → onward nat_cmp key (l.entries ++ r.entries) ≡ onward nat_cmp key r.entries
    onward_right key ge = onward_back key l.entries r.entries (left_before key ge)
