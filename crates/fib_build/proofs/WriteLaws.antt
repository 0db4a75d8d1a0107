-- What several writes of entries keep.
use Rattle.std.proofs.Common.{◌≡◌, ◌≢◌, ℕ, ◌⊎◌, Option, refl, sym, ◌∙◌, subst, inl, inr}
use Rattle.std.specs.List.{Contains}
use Rattle.std.specs.Ordering.{nat_cmp}
use Rattle.keyed.specs.Keyed.{at}
use Rattle.keyed.specs.KeyedLaws.{decide}
use Rattle.net_types.specs.declared.table.RouteKey.{RouteKey}
use Rattle.net_types.specs.KeyOrder.{route_cmp, route_order}
use Rattle.node_map.specs.Change.{IsMadeFor}
use Rattle.node_map.specs.TreeNode.{TreeNode}
use Rattle.state_keys.specs.PartKeys.{fib_number, IsFib}
use Rattle.switch_model.specs.declared.record.FibEntry.{FibEntry}
use Rattle.switch_state.specs.StateView.{StateView}
use Rattle.fib_build.specs.Part.{FibPathsMade, IsEntrySet, KeepsNodes, entry_at}

-- the node was made at the edit's version, on the path of a key that has another entry now
pub record IsWritten (old new : StateView) (n : TreeNode FibEntry) : Type 0 where
  pub key : RouteKey
  pub made : IsMadeFor old.version (fib_number key) n
  pub differs : entry_at key old ≢ entry_at key new

-- each new node is on the path of a key that has another entry now, and a key with the same entry has its old node
pub record WritesDiffer (old new : StateView) : Type 0 where
  pub nodes : (n : TreeNode FibEntry) → Contains new.fibs.nodes n → Contains old.fibs.nodes n ⊎ IsWritten old new n
  pub kept : (k : RouteKey) → IsFib k → entry_at k old ≡ entry_at k new → at nat_cmp (fib_number k) new.fibs.entries ≡ at nat_cmp (fib_number k) old.fibs.entries

pub no_writes : (s : StateView) → WritesDiffer s s
no_writes s = record { nodes = λ n has. inl has; kept = λ k _ _. refl }

-- one write more, under a key that wasn't written under before
module _ (before now new : StateView) (key : RouteKey) (entry : Option FibEntry) (version_is : now.version ≡ before.version) (same : entry_at key now ≡ entry_at key before) (writes : WritesDiffer before now) (set : IsEntrySet key entry now new) where
  untouched : (k : RouteKey) → k ≡ key → entry_at k now ≡ entry_at k before
  untouched k is = subst (λ (x : RouteKey). entry_at x now ≡ entry_at x before) (sym is) same

  nodes_more : (n : TreeNode FibEntry) → Contains new.fibs.nodes n → Contains before.fibs.nodes n ⊎ IsWritten before new n
  nodes_more n has = elim (set.write.nodes n has) [
    | inl old ↦ elim (writes.nodes n old) [
      | inl older ↦ inl older
      | inr w ↦ elim (decide route_cmp route_order w.key key) [
        | inl is ↦ absurd (w.differs (sym (untouched w.key is)))
        | inr apart ↦ inr (record { key = w.key; made = w.made; differs = λ alike. w.differs (alike ∙ set.others w.key apart) })
      ]
    ]
    | inr made ↦ inr (record {
      key = key;
      made = subst (λ (v : ℕ). IsMadeFor v (fib_number key) n) version_is made.0;
      differs = λ alike. made.1 (same ∙ alike ∙ set.here);
    })
  ]

  kept_more : (k : RouteKey) → IsFib k → entry_at k before ≡ entry_at k new → at nat_cmp (fib_number k) new.fibs.entries ≡ at nat_cmp (fib_number k) before.fibs.entries
  kept_more k range alike = elim (decide route_cmp route_order k key) [
    | inl is ↦
        let wanted : entry_at key now ≡ entry = same ∙ subst (λ (x : RouteKey). entry_at x before ≡ entry_at x new) is alike ∙ set.here in
        set.write.kept k range (inr wanted) ∙ writes.kept k range (sym (untouched k is))
    | inr apart ↦ set.write.kept k range (inl apart) ∙ writes.kept k range (alike ∙ set.others k apart)
  ]

  pub writes-more : WritesDiffer before new
  writes-more = record { nodes = nodes_more; kept = kept_more }

pub kept-of : (old new : StateView) → WritesDiffer old new → KeepsNodes old new
kept-of old new writes = record { kept = writes.kept }

pub paths-of : (old new : StateView) → WritesDiffer old new → FibPathsMade old new
paths-of old new writes = record {
  fibs = record {
    each = λ n has. elim (writes.nodes n has) [
      | inl older ↦ inl older
      | inr w ↦ inr (record { key = fib_number w.key; such = record { key = w.key; number_is = refl; differs = w.differs }; made = w.made })
    ];
  };
}
