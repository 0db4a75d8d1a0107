-- What differs between two trees, by their leaves and by what they share.
use Rattle.std.proofs.Common.{◌≡◌, ◌≢◌, ℕ, ◌+◌, ◌<◌, ◌≤◌, Bool, true, false, cond, eqb, List, [], ◌∷◌, Option, None, Some, refl, sym, ap, ◌∙◌, subst, arith, inl, inr}
use Rattle.std.specs.Borrow.{Bor}
use Rattle.std.specs.List.{All, Contains, IsAmong}
use Rattle.std.specs.Option.{option_map}
use Rattle.std.specs.Ordering.{nat_cmp}
use Rattle.std.proofs.lemmas.Bool.{eqb-true, eqb-false, eq-eqb}
use Rattle.std.proofs.lemmas.List.Elements.{All-contains}
use Rattle.std.proofs.lemmas.Option.{none-some}
use Rattle.keyed.specs.Keyed.{at, Ascends}
use Rattle.keyed.specs.KeyOrders.{nat_order}
use Rattle.keyed.specs.ValueLaws.{among-at}
use Rattle.node_core.specs.Node.{NodeView}
use Rattle.node_key.specs.Place.{Covers}
use Rattle.node_map.specs.Follows.{FollowsAt, Follows}
use Rattle.node_map.specs.Map.{MapView, IsRootOf}
use Rattle.node_map.specs.Sound.{AreSingle, HasLeaf, IsSound}
use Rattle.keyed.specs.Ranges.{head_of}
use Rattle.node_map.specs.Steps.{later}
use Rattle.node_map.specs.TreeNode.{Entries, TreeNode, TreeView}
use Rattle.node_map.proofs.Order.{at_key, cmp-same}
use Rattle.state_delta.specs.Change.{ChangeView, between, change_of}
use Rattle.state_delta.specs.Delta.{IsPast, IsNext, change_at, delta}
use Rattle.state_delta.specs.Sides.{Agree, IsReady, side_entries, side_nodes}
use Rattle.state_delta.specs.declared.change.Kind.TheVariants.{Added, Removed}
use Rattle.state_delta.proofs.Next.{next_entry, next_removed, next_added, past_apart}

-- what stands in one map alone, as the code has it
module _ {T : Type 0} (last : Option ℕ) (es : Entries T) where
  found_next : (r : Option (ℕ × NodeView T)) → r ≡ head_of (later last es) → IsNext last (λ k. at nat_cmp k es) r
  found_next r r_is = subst (IsNext last (λ k. at nat_cmp k es)) (sym r_is) (next_entry last es)

  pub none_added : None ≡ head_of (later last es) → (key : ℕ) → IsPast last key → change_of None (at nat_cmp key es) ≡ None
  none_added r_is = next_added last es None (found_next None r_is)

  pub none_removed : None ≡ head_of (later last es) → (key : ℕ) → IsPast last key → change_of (at nat_cmp key es) None ≡ None
  none_removed r_is = next_removed last es None (found_next None r_is)

  pub some_added : (key : ℕ) (node : NodeView T) (value : T) → value ≡ node.value → Some (key, node) ≡ head_of (later last es) → IsNext last (λ k. change_of None (at nat_cmp k es)) (Some (key, record { old = None; new = Some value; kind = Added }))
  some_added key node value value_is r_is = rw value_is (next_added last es (Some (key, node)) (found_next (Some (key, node)) r_is))

  pub some_removed : (key : ℕ) (node : NodeView T) (value : T) → value ≡ node.value → Some (key, node) ≡ head_of (later last es) → IsNext last (λ k. change_of (at nat_cmp k es) None) (Some (key, record { old = Some value; new = None; kind = Removed }))
  some_removed key node value value_is r_is = rw value_is (next_removed last es (Some (key, node)) (found_next (Some (key, node)) r_is))

none_but : {V : Type 0} (o : Option V) → ((v : V) → o ≡ Some v → ⊥) → o ≡ None
none_but None never = refl
none_but (Some v) never = absurd (never v refl)

zero_covers : {low width k : ℕ} → width ≡ 0 → Covers low width k → k ≡ low
zero_covers {low} {width} {k} zero c =
    let here : Covers low 0 k = subst (λ w. Covers low w k) zero c in
    let from : low ≤ k = here.from in
    let to : k < low + 1 = here.to in
    omega arith

-- the one entry of a leaf
pub record IsOnly {T : Type 0} (key : ℕ) (node : NodeView T) (es : Entries T) : Type 0 where
  pub there : at nat_cmp key es ≡ Some node
  pub others : (k : ℕ) → k ≢ key → at nat_cmp k es ≡ None

module _ {T : Type 0} where
  at_first : (key : ℕ) (node : NodeView T) (es : Entries T) → Some (key, node) ≡ head_of es → at nat_cmp key es ≡ Some node
  at_first key node [] is = absurd (none-some (key, node) (sym is))
  at_first key node (e ∷ es) is =
      let same : (key, node) ≡ e = cc in
      subst (λ (z : ℕ × NodeView T). at nat_cmp z.0 (e ∷ es) ≡ Some z.1) (sym same) (rw (cmp-same e.0) refl)

  pub leaf_key : {key : ℕ} {node : NodeView T} (t : TreeView T) → IsSound t → t.width ≡ 0 → Some (key, node) ≡ head_of t.entries → key ≡ t.low
  leaf_key {key} {node} t sound zero is = zero_covers zero (at_key (Covers t.low t.width) key node t.entries sound.keys (at_first key node t.entries is))

  pub leaf_only : {key : ℕ} {node : NodeView T} (t : TreeView T) → IsSound t → t.width ≡ 0 → Some (key, node) ≡ head_of t.entries → IsOnly key node t.entries
  leaf_only {key} {node} t sound zero is = record {
    there = at_first key node t.entries is;
    others = λ k apart. none_but (at nat_cmp k t.entries) (λ v found. apart (zero_covers zero (at_key (Covers t.low t.width) k v t.entries sound.keys found) ∙ sym (leaf_key t sound zero is)));
  }

  pub leaf_beside : {key other : ℕ} {m n : NodeView T} (old new : TreeView T) → IsSound old → IsSound new → old.width ≡ 0 → new.width ≡ 0 → old.low ≡ new.low → Some (key, m) ≡ head_of old.entries → Some (other, n) ≡ head_of new.entries → IsOnly key n new.entries
  leaf_beside {key} {other} {m} {n} old new sound_old sound_new zero_old zero_new low_is first_old first_new =
      let one_key : other ≡ key = leaf_key new sound_new zero_new first_new ∙ sym low_is ∙ sym (leaf_key old sound_old zero_old first_old) in
      subst (λ (k : ℕ). IsOnly k n new.entries) one_key (leaf_only new sound_new zero_new first_new)

  -- leaves of one key
  module _ (last : Option ℕ) (key : ℕ) {m n : NodeView T} {old new : Entries T} (in_old : IsOnly key m old) (in_new : IsOnly key n new) where
    change_here : change_at old new key ≡ between m n
    change_here = rw (in_old.there, in_new.there) refl

    change_elsewhere : (k : ℕ) → k ≢ key → change_at old new k ≡ None
    change_elsewhere k apart = rw (in_old.others k apart, in_new.others k apart) refl

    pub leaves_passed : (IsPast last key → ⊥) → (k : ℕ) → IsPast last k → change_at old new k ≡ None
    leaves_passed not_past k past = change_elsewhere k (past_apart last key k not_past past)

    none_by : between m n ≡ None → (k : ℕ) (test : Bool) → eqb k key ≡ test → change_at old new k ≡ None
    none_by none k true test = ap (change_at old new) (eqb-true k key test) ∙ change_here ∙ none
    none_by none k false test = change_elsewhere k (eqb-false k key test)

    next_by : (b : Option (ChangeView T)) → between m n ≡ b → IsPast last key → IsNext last (change_at old new) (option_map (λ c. (key, c)) b)
    next_by None is past = λ k past_k. none_by is k (eqb k key) refl
    next_by (Some c) is past = (past, change_here ∙ is, λ k past_k lt. change_elsewhere k (λ same. omega arith))

    pub leaves_next : (r : Option (ℕ × ChangeView T)) → r ≡ option_map (λ c. (key, c)) (between m n) → IsPast last key → IsNext last (change_at old new) r
    leaves_next r r_is past = subst (IsNext last (change_at old new)) (sym r_is) (next_by (between m n) refl past)

  between_same : (m : NodeView T) → between m m ≡ None
  between_same m = rw (eq-eqb m.born m.born refl, eq-eqb m.generation m.generation refl) refl

  change_of_same : (o : Option (NodeView T)) → change_of o o ≡ None
  change_of_same None = refl
  change_of_same (Some m) = between_same m

  -- what two trees share is passed over
  pub shared_none : (old new : TreeView T) → IsSound old → IsSound new → Agree old.nodes new.nodes → (old.low ≡ new.low) × (old.width ≡ new.width) × (old.generation ≡ new.generation) → (key : ℕ) → change_at old.entries new.entries key ≡ None
  shared_none old new sound_old sound_new agree same key =
      let entries : old.entries ≡ new.entries = agree.each _ _ sound_old.root sound_new.root same.0 same.1 same.2 in
      ap (λ es. change_of (at nat_cmp key es) (at nat_cmp key new.entries)) entries ∙ change_of_same (at nat_cmp key new.entries)

  pub agree_part : {xs ys us vs : List (TreeNode T)} → ((n : TreeNode T) → Contains us n → Contains xs n) → ((n : TreeNode T) → Contains vs n → Contains ys n) → Agree xs ys → Agree us vs
  agree_part {xs} {ys} {us} {vs} left right agree = record { each = λ m n has_m has_n. agree.each m n (left m has_m) (right n has_n) }

  agree_by : {version : ℕ} {old new : List (TreeNode T)} → AreSingle old → FollowsAt version old new → Agree old new
  agree_by {version} {old} {new} single follows = record {
    each = λ m n has_m has_n low_is width_is generation_is. elim (follows.each n has_n) [
      | inl later ↦ absurd (let before = follows.made_by.each m has_m in omega arith)
      | inr there ↦ ap (λ z. z.entries) (single.each m n has_m there low_is width_is)
    ];
  }

  pub agree_from_follows : {old new : List (TreeNode T)} → AreSingle old → Follows old new → Agree old new
  agree_from_follows {old} {new} single follows = agree_by single follows.1

  -- a map's root has its entries and nodes
  pub root_entries : (m : MapView T) (root : Option (Bor (TreeView T))) → IsRootOf m root → side_entries root ≡ m.entries
  root_entries m None is = sym is.0
  root_entries m (Some tree) is = is.1

  pub root_nodes : (m : MapView T) (root : Option (Bor (TreeView T))) → IsRootOf m root → side_nodes root ≡ m.nodes
  root_nodes m None is = sym is.1
  root_nodes m (Some tree) is = is.2

  pub roots_ready : (old new : MapView T) (old_root new_root : Option (Bor (TreeView T))) → IsRootOf old old_root → IsRootOf new new_root → Ascends nat_cmp old.entries → Ascends nat_cmp new.entries → AreSingle old.nodes → Follows old.nodes new.nodes → IsReady old_root new_root
  roots_ready old new old_root new_root old_is new_is old_ascends new_ascends single follows = record {
    old_ascends = subst (Ascends nat_cmp) (sym (root_entries old old_root old_is)) old_ascends;
    new_ascends = subst (Ascends nat_cmp) (sym (root_entries new new_root new_is)) new_ascends;
    agree = subst (λ xs. Agree xs (side_nodes new_root)) (sym (root_nodes old old_root old_is)) (subst (λ ys. Agree old.nodes ys) (sym (root_nodes new new_root new_is)) (agree_from_follows single follows));
  }

  pub roots_delta : (old new : MapView T) (old_root new_root : Option (Bor (TreeView T))) → IsRootOf old old_root → IsRootOf new new_root → delta (side_entries old_root) (side_entries new_root) ≡ delta old.entries new.entries
  roots_delta old new old_root new_root old_is new_is = rw (root_entries old old_root old_is, root_entries new new_root new_is) refl

  -- a key under which nothing differs
  has_leaf : (key : ℕ) (node : NodeView T) (es : Entries T) (nodes : List (TreeNode T)) → All (HasLeaf nodes) es → at nat_cmp key es ≡ Some node → HasLeaf nodes (key, node)
  has_leaf key node es nodes leaves is =
      let among : IsAmong es (key, node) = among-at nat_cmp nat_order key node es is in
      All-contains (HasLeaf nodes) es (key, node) leaves (among.0, among.1.0, sym among.1.1)

  same_node : (key : ℕ) (m n : NodeView T) {xs ys : List (TreeNode T)} → Agree xs ys → HasLeaf xs (key, m) → HasLeaf ys (key, n) → m.generation ≡ n.generation → m ≡ n
  same_node key m n {xs} {ys} agree in_xs in_ys generation_is =
      let entries : (key, m) ∷ [] ≡ (key, n) ∷ [] = agree.each _ _ in_xs in_ys refl refl generation_is in
      let entry : (key, m) ≡ (key, n) = cc in
      ap (λ (e : ℕ × NodeView T). e.1) entry

  generation_by : (m n : NodeView T) (c d : ChangeView T) (born generation : Bool) → eqb m.generation n.generation ≡ generation → cond born (cond generation None (Some c)) (Some d) ≡ None → m.generation ≡ n.generation
  generation_by m n c d true true test none = eqb-true m.generation n.generation test
  generation_by m n c d true false test none = absurd (none-some c (sym none))
  generation_by m n c d false generation test none = absurd (none-some d (sym none))

  between_none : (m n : NodeView T) → between m n ≡ None → m.generation ≡ n.generation
  between_none m n none = generation_by m n _ _ (eqb m.born n.born) (eqb m.generation n.generation) refl none

  unlisted_by : (key : ℕ) (o p : Option (NodeView T)) (old new : Entries T) {xs ys : List (TreeNode T)} → at nat_cmp key old ≡ o → at nat_cmp key new ≡ p → All (HasLeaf xs) old → All (HasLeaf ys) new → Agree xs ys → change_of o p ≡ None → o ≡ p
  unlisted_by key None None old new {xs} {ys} old_is new_is old_leaves new_leaves agree none = refl
  unlisted_by key None (Some n) old new {xs} {ys} old_is new_is old_leaves new_leaves agree none = absurd (none-some _ (sym none))
  unlisted_by key (Some m) None old new {xs} {ys} old_is new_is old_leaves new_leaves agree none = absurd (none-some _ (sym none))
  unlisted_by key (Some m) (Some n) old new {xs} {ys} old_is new_is old_leaves new_leaves agree none =
      ap (λ z. Some z) (same_node key m n agree (has_leaf key m old xs old_leaves old_is) (has_leaf key n new ys new_leaves new_is) (between_none m n none))

  pub unlisted : (old new : MapView T) → All (HasLeaf old.nodes) old.entries → All (HasLeaf new.nodes) new.entries → AreSingle old.nodes → Follows old.nodes new.nodes → (key : ℕ) → change_at old.entries new.entries key ≡ None → at nat_cmp key old.entries ≡ at nat_cmp key new.entries
  unlisted old new old_leaves new_leaves single follows key none = unlisted_by key (at nat_cmp key old.entries) (at nat_cmp key new.entries) old.entries new.entries refl refl old_leaves new_leaves (agree_from_follows single follows) none
