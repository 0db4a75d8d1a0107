-- Keys of routes as a set of numbers.
use Rattle.std.proofs.Common.{◌≡◌, ◌↔◌, ℕ, List, Option, None, Some, map, sym, ap, ◌∙◌, subst}
use Rattle.std.specs.List.{All, Contains}
use Rattle.std.specs.List.Sorted.{IsStrictlySortedBy}
use Rattle.std.specs.Option.{option_map}
use Rattle.std.specs.Ordering.{is_gt, is_le, nat_cmp}
use Rattle.std.proofs.lemmas.List.Elements.{All-contains}
use Rattle.keyed.specs.Members.{contains_map}
use Rattle.keyed.specs.Ranges.{head_of, keys_past, keys_up_to, last_of}
use Rattle.net_types.specs.declared.table.RouteKey.{RouteKey}
use Rattle.net_types.specs.KeyOrder.{route_cmp, route_order}
use Rattle.net_types.specs.Prefix.{IsPrefix}
use Rattle.route_laws.specs.Descent.{last_to, ArePrefixKeys}
use Rattle.rib_lookup.proofs.Bounds.{head-all, last-up_to, past-find}
use Rattle.rib_lookup.proofs.NumberedKeys.{all-filter, head-is, head-map, last-is, last-map, part_numbers}
use Rattle.state_keys.specs.KeyLaws.{fib_numbering}
use Rattle.state_keys.specs.PartKeys.{fib_number, fib_of, IsFib, IsFibNumber}
use Rattle.switch_model.specs.Looking.{key_after}
use Rattle.fib_refresh.proofs.NumberLaws.{number_among, sorted_numbered}

module _ (ns : List ℕ) (all : All IsFibNumber ns) (keys : List RouteKey) (view_is : map fib_of ns ≡ keys) where
  pub keys-ascend : IsStrictlySortedBy nat_cmp ns → IsStrictlySortedBy route_cmp keys
  keys-ascend asc = subst (λ (l : List RouteKey). IsStrictlySortedBy route_cmp l) view_is (sorted_numbered fib_numbering ns all asc)

  pub keys-prefixes : ArePrefixKeys keys
  keys-prefixes = record {
    prefix = λ key has.
        let f = contains_map fib_of ns key (subst (λ (l : List RouteKey). Contains l key) (sym view_is) has) in
        let number : IsFibNumber f.0 = All-contains IsFibNumber ns f.0 all f.1 in
        subst (λ (k : RouteKey). IsPrefix k.prefix) f.2 number.key.prefix;
  }

  pub keys-has : (key : RouteKey) → IsFib key → (n : ℕ) → n ≡ fib_number key → Contains ns n ↔ Contains keys key
  keys-has key range n number = subst (λ (m : ℕ). Contains ns m ↔ Contains keys key) (sym number) (subst (λ (l : List RouteKey). Contains ns (fib_number key) ↔ Contains l key) view_is (number_among fib_numbering key range ns all))

  pub keys-past : (key : RouteKey) → IsFib key → (n : ℕ) → n ≡ fib_number key → (found : Option ℕ) → found ≡ head_of (keys_past nat_cmp n ns) → option_map fib_of found ≡ key_after (Some key) keys
  keys-past key range n number found is =
      ap (option_map fib_of) (is ∙ ap (λ (m : ℕ). head_of (keys_past nat_cmp m ns)) number)
      ∙ head-map fib_of (keys_past nat_cmp (fib_number key) ns)
      ∙ ap head_of (part_numbers fib_numbering key range is_gt ns all)
      ∙ past-find route_cmp route_order key (map fib_of ns)
      ∙ ap (key_after (Some key)) view_is

  pub keys-first : (walk : List ℕ) → walk ≡ ns → (found : Option ℕ) → found ≡ head_of walk → option_map fib_of found ≡ key_after None keys
  keys-first walk over found is = ap (option_map fib_of) (is ∙ ap head_of over) ∙ head-map fib_of ns ∙ head-all (map fib_of ns) ∙ ap (key_after None) view_is

  pub keys-last : IsStrictlySortedBy nat_cmp ns → (key : RouteKey) → IsFib key → (n : ℕ) → n ≡ fib_number key → (found : Option ℕ) → found ≡ last_of (keys_up_to nat_cmp n ns) → option_map fib_of found ≡ last_to key keys
  keys-last asc key range n number found is =
      ap (option_map fib_of) (is ∙ ap (λ (m : ℕ). last_of (keys_up_to nat_cmp m ns)) number)
      ∙ last-map fib_of (keys_up_to nat_cmp (fib_number key) ns)
      ∙ ap last_of (part_numbers fib_numbering key range is_le ns all)
      ∙ last-up_to route_cmp route_order key (map fib_of ns) (sorted_numbered fib_numbering ns all asc)
      ∙ ap (last_to key) view_is

  -- what is found is the number of a key
  pub past-number : (n x : ℕ) → Some x ≡ head_of (keys_past nat_cmp n ns) → IsFibNumber x
  past-number n x is = head-is IsFibNumber (keys_past nat_cmp n ns) x (all-filter IsFibNumber (λ k. is_gt (nat_cmp k n)) ns all) is

  pub first-number : (walk : List ℕ) → walk ≡ ns → (x : ℕ) → Some x ≡ head_of walk → IsFibNumber x
  first-number walk over x is = head-is IsFibNumber ns x all (is ∙ ap head_of over)

  pub last-number : (n x : ℕ) → Some x ≡ last_of (keys_up_to nat_cmp n ns) → IsFibNumber x
  last-number n x is = last-is IsFibNumber (keys_up_to nat_cmp n ns) x (all-filter IsFibNumber (λ k. is_le (nat_cmp k n)) ns all) is
