-- The entries of the FIB, by look-ups.
use Rattle.std.proofs.Common.{◌≡◌, ℕ, Option, None, Some, List, ◌⊎◌, refl, sym, ap, ◌∙◌, subst, inl, inr}
use Rattle.std.specs.List.{Contains}
use Rattle.std.specs.Option.{IsSome}
use Rattle.keyed.specs.Keyed.{at, Ascends}
use Rattle.keyed.specs.KeyedLaws.{same_at}
use Rattle.keyed.specs.SetLaws.{at-entries_at, at-entries_at_other, ascends-entries_at}
use Rattle.net_types.specs.declared.table.RouteKey.{RouteKey}
use Rattle.net_types.specs.Cidr.{Cidr}
use Rattle.net_types.specs.KeyOrder.{route_cmp, route_order}
use Rattle.switch_model.specs.declared.record.FibEntry.{FibEntry}
use Rattle.switch_model.specs.BestRoute.{BestRoute, best}
use Rattle.switch_model.specs.Fib.{fib, fib_of_best, fibs}
use Rattle.switch_model.specs.LongestMatch.{best_keys}
use Rattle.switch_model.specs.PlainState.{Rib}
use Rattle.route_laws.proofs.BestLaws.{best_keys-has, has-best_keys}

-- what has no best route has no entry
pub fib-none : (rib : Rib) (vrf : ℕ) (prefix : Cidr) → best rib vrf prefix ≡ None → fib rib vrf prefix ≡ None
fib-none rib vrf prefix is = ap (fib_of_best rib vrf prefix) is

some_or_none : {V : Type 0} (o : Option V) → IsSome o ⊎ (o ≡ None)
some_or_none None = inr refl
some_or_none (Some v) = inl refl

-- under a key stands its entry
pub fibs-at : (rib : Rib) (key : RouteKey) → at route_cmp key (fibs rib) ≡ fib rib key.vrf key.prefix
fibs-at rib key = elim (some_or_none (best rib key.vrf key.prefix)) [
  | inl some ↦ at-entries_at route_cmp route_order (λ k. fib rib k.vrf k.prefix) key (best_keys rib) (has-best_keys rib key some)
  | inr none ↦
      let absent : Contains (best_keys rib) key → ⊥ = λ has. let some : IsSome (best rib key.vrf key.prefix) = best_keys-has rib key has in let no : IsSome {T = BestRoute} None = subst (λ (o : Option BestRoute). IsSome o) none some in cc in
      at-entries_at_other route_cmp route_order (λ k. fib rib k.vrf k.prefix) key (best_keys rib) absent ∙ sym (fib-none rib key.vrf key.prefix none)
]

pub fibs-ascend : (rib : Rib) → Ascends route_cmp (fibs rib)
fibs-ascend rib = ascends-entries_at route_cmp route_order (λ k. fib rib k.vrf k.prefix) (best_keys rib)

-- what ascends and has each key's entry is the FIB
pub fibs-same : (rib : Rib) (entries : List (RouteKey × FibEntry)) → Ascends route_cmp entries → ((key : RouteKey) → at route_cmp key entries ≡ fib rib key.vrf key.prefix) → entries ≡ fibs rib
fibs-same rib entries asc each = same_at route_cmp route_order entries (fibs rib) asc (fibs-ascend rib) (λ key. each key ∙ sym (fibs-at rib key))
