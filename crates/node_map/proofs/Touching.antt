-- Nodes on the paths of several keys.
use Rattle.std.proofs.Common.{◌≡◌, ℕ, ◌+◌, ◌*◌, ◌^◌, ◌<◌, ◌≤◌, ◌⊎◌, ◌==◌, ◌&&◌, not, Bool, true, false, cond, List, [], ◌∷◌, ◌++◌, length, refl, sym, ap, ◌∙◌, subst, arith, inl, inr}
use Rattle.std.specs.List.{Contains, count_by}
use Rattle.std.proofs.lemmas.Bool.{eqb-true, lt-ltb, le-leb, and_from, and_parts, not-true}
use Rattle.std.proofs.lemmas.List.Elements.{Contains-append_left, Contains-append_right}
use Rattle.std.proofs.lemmas.List.Sums.{sum_by-cons}
use Rattle.node_key.specs.Place.{Covers}
use Rattle.node_map.specs.Change.{IsMadeFor, IsPathMade}
use Rattle.node_map.specs.Follows.{IsMadeBy}
use Rattle.node_map.specs.Paths.{ArePathsMade, IsMadeForSome, LieOnPaths, is_of}
use Rattle.node_map.specs.TreeNode.{PathsFit, TreeNode, is_on_path}
use Rattle.node_map.proofs.Trees.{contains_here, contains_later, contains_cases, contains_none}

abbrev one_if : Bool → ℕ
one_if b = cond b 1 0

module _ {T : Type 0} {version : ℕ} where
  -- no key, one key, and keys after keys
  pub paths_none : {Is : ℕ → Type 0} {nodes : List (TreeNode T)} → ArePathsMade version Is nodes nodes
  paths_none = record { each = λ n h. inl h }

  pub paths_one : {Is : ℕ → Type 0} {key : ℕ} {old new : List (TreeNode T)} → Is key → IsPathMade version key old new → ArePathsMade version Is old new
  paths_one {Is} {key} such made = record { each = λ n h. elim (made.each n h) [ inl there ↦ inl there | inr fresh ↦ inr (record { key = key; such = such; made = fresh }) ] }

  pub paths_weaker : {Step Is : ℕ → Type 0} {old new : List (TreeNode T)} → ((k : ℕ) → Step k → Is k) → ArePathsMade version Step old new → ArePathsMade version Is old new
  paths_weaker {Step} {Is} weaker made = record { each = λ n h. elim (made.each n h) [ inl there ↦ inl there | inr fresh ↦ inr (record { key = fresh.key; such = weaker fresh.key fresh.such; made = fresh.made }) ] }

  pub paths_more : {First Step Is : ℕ → Type 0} {old mid new : List (TreeNode T)} → ((k : ℕ) → First k → Is k) → ((k : ℕ) → Step k → Is k) → ArePathsMade version First old mid → ArePathsMade version Step mid new → ArePathsMade version Is old new
  paths_more {First} {Step} {Is} {old} {mid} {new} from_first from_step first step =
      let one : ArePathsMade version Is old mid = paths_weaker from_first first in
      let two : ArePathsMade version Is mid new = paths_weaker from_step step in
      record { each = λ n h. elim (two.each n h) [ inl there ↦ one.each n there | inr fresh ↦ inr fresh ] }

  pub paths_after : (first step : List ℕ) {old mid new : List (TreeNode T)} → ArePathsMade version (Contains first) old mid → ArePathsMade version (Contains step) mid new → ArePathsMade version (Contains (first ++ step)) old new
  paths_after first step one two = paths_more (λ k h. Contains-append_left first step k h) (λ k h. Contains-append_right first step k h) one two

covers_path : {T : Type 0} (key : ℕ) (n : TreeNode T) → Covers n.low n.width key → is_on_path key n ≡ true
covers_path key n covers =
    let from = covers.from in
    let to = covers.to in
    and_from _ _ (le-leb n.low key from) (lt-ltb key (n.low + 2 ^ n.width) to)

-- where the old nodes were made before the version, those of the version are new
pub lie : {T : Type 0} {before version : ℕ} {Is : ℕ → Type 0} {old new : List (TreeNode T)} → before < version → IsMadeBy before old → ArePathsMade version Is old new → LieOnPaths version Is new
lie {T} {before} {version} {Is} {old} {new} later made paths = record {
  each = λ n there at. elim (paths.each n there) [
    | inl was ↦ let by = made.each n was in absurd (omega arith)
    | inr fresh ↦ (fresh.key, fresh.such, fresh.made.covers)
  ];
}

count_parts : (p q : Bool) → one_if p ≤ one_if q + one_if (p && not q)
count_parts true true = omega arith
count_parts true false = omega arith
count_parts false true = omega arith
count_parts false false = omega arith

module _ {X : Type 0} where
  count_cons : (p : X → Bool) (x : X) (xs : List X) → count_by p (x ∷ xs) ≡ one_if (p x) + count_by p xs
  count_cons p x xs = sum_by-cons (λ (y : X). one_if (p y)) x xs

  count_split : (p q : X → Bool) (xs : List X) → count_by p xs ≤ count_by q xs + count_by (λ x. p x && not (q x)) xs
  count_split p q [] = omega arith
  count_split p q (x ∷ xs) =
      let a = count_cons p x xs in
      let b = count_cons q x xs in
      let c = count_cons (λ y. p y && not (q y)) x xs in
      let here = count_parts (p x) (q x) in
      let rest = count_split p q xs in
      omega arith

  count_none : (p : X → Bool) (xs : List X) → ((x : X) → Contains xs x → p x ≡ true → ⊥) → count_by p xs ≡ 0
  count_none p [] none = refl
  count_none p (x ∷ xs) none =
      let a = count_cons p x xs in
      let off : p x ≡ false = is_false (p x) (none x (contains_here x xs)) in
      let here : one_if (p x) ≡ 0 = ap one_if off in
      let rest = count_none p xs (λ y h. none y (contains_later x y xs h)) in
      omega arith
    where
      is_false : (b : Bool) → (b ≡ true → ⊥) → b ≡ false
      is_false true never = absurd (never refl)
      is_false false never = refl

  -- where each that passes is on one of the keys' lists, and each key's list is short
  count_few : (most : ℕ) (on : ℕ → X → Bool) (xs : List X) → ((k : ℕ) → count_by (on k) xs ≤ most) → (keys : List ℕ) (p : X → Bool) → ((x : X) → Contains xs x → p x ≡ true → (k : ℕ) × Contains keys k × (on k x ≡ true)) → count_by p xs ≤ most * length keys
  count_few most on xs short [] p each = let none : count_by p xs ≡ 0 = count_none p xs (λ x h is. contains_none (each x h is).0 (each x h is).1) in omega arith
  count_few most on xs short (k ∷ ks) p each =
      let rest : count_by (λ x. p x && not (on k x)) xs ≤ most * length ks = count_few most on xs short ks (λ x. p x && not (on k x))
      (λ x h is.
      let both = and_parts (p x) (not (on k x)) is in
      let found = each x h both.0 in
      elim (contains_cases k found.0 ks found.1) [
        | inl same ↦ absurd (both_ways (on k x) (subst (λ z. on z x ≡ true) (sym same) found.2) (not-true (on k x) both.1))
        | inr later ↦ (found.0, later, found.2)
      ]) in
      let here = short k in
      let split = count_split p (on k) xs in
      let product : most * length (k ∷ ks) ≡ most + most * length ks = omega arith in
      omega arith
    where
      both_ways : (b : Bool) → b ≡ true → b ≡ false → ⊥
      both_ways true one two = absurd (cc)
      both_ways false one two = absurd (cc)

pub few : {T : Type 0} (version : ℕ) (keys : List ℕ) (nodes : List (TreeNode T)) → PathsFit nodes → LieOnPaths version (Contains keys) nodes → count_by (is_of version) nodes ≤ 193 * length keys
few {T} version keys nodes fit lies = count_few 193 is_on_path nodes fit keys (is_of version) (λ n there is. let found = lies.each n there (eqb-true n.generation version is) in (found.0, found.1, covers_path found.0 n found.2))
