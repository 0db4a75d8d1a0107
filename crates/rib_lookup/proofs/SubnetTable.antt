-- The interface of a subnet is that of the first subnet from it on.
use Rattle.std.proofs.Common.{◌≡◌, ◌≤◌, ◌<◌, ℕ, not, Bool, true, false, Option, None, Some, List, [], ◌∷◌, if◌then◌else◌, map, refl, sym, ap, ◌∙◌, subst, inl, inr, arith}
use Rattle.std.specs.List.{Contains, find}
use Rattle.std.specs.Option.{IsSome, option_map}
use Rattle.std.specs.Ordering.{nat_cmp, ordering_then, ordering_reverse, is_lt, is_le}
use Rattle.std.specs.declared.cmp.Ordering.{Ordering}
use Rattle.std.specs.declared.cmp.Ordering.TheVariants.{Less, Equal, Greater}
use Rattle.std.proofs.lemmas.Bool.{cond_both, cases_Bool}
use Rattle.std.proofs.lemmas.Cmp.{ranked}
use Rattle.keyed.specs.Keyed.{Ascends, IsBelow}
use Rattle.keyed.specs.KeyedLaws.{same}
use Rattle.keyed.specs.Members.{contains_first, contains_later, contains_cases, contains_none, contains_map}
use Rattle.net_types.specs.declared.table.RouteKey.{RouteKey}
use Rattle.net_types.specs.Cidr.{Cidr}
use Rattle.net_types.specs.KeyOrder.{route_cmp, route_order}
use Rattle.switch_model.specs.declared.record.IntfRec.{IntfRec}
use Rattle.switch_model.specs.BestRoute.{has_subnet_in}
use Rattle.subnet_index.specs.declared.key.Subnet.{Subnet}
use Rattle.subnet_index.specs.SubnetKey.{subnet_cmp, subnet_order}
use Rattle.rib_lookup.proofs.Firsts.{lt_turned, first-found, none-found}
use Rattle.rib_lookup.proofs.OverLaws.{le_low}
use Rattle.rib_lookup.proofs.RouteTable.{same_key, same_key-is, is-same_key}
use Rattle.rib_lookup.proofs.TableOrders.{subnets_over}
use Rattle.rib_lookup.specs.Over.{IsOver, IsFirst}
use Rattle.rib_lookup.specs.Tables.{key_of_subnet, subnet_rest, with_intf, AreSubnets}

none_some : {V : Type 0} {v : V} → None ≡ Some v → ⊥
none_some h = cc

some_is : {V : Type 0} {v w : V} → Some v ≡ Some w → v ≡ w
some_is h = cc

-- the first interface that has the subnet is the least one
record IsLeastIntf (vrf : ℕ) (prefix : Cidr) (intfs : List (ℕ × IntfRec)) (e : ℕ × IntfRec) : Type 0 where
  among : Contains intfs e
  has : has_subnet_in vrf prefix e ≡ true
  least : (x : ℕ × IntfRec) → Contains intfs x → has_subnet_in vrf prefix x ≡ true → e.0 ≤ x.0

less-than : (x y : ℕ) → nat_cmp x y ≡ Less → x < y
less-than x y h = ranked x y Less (sym h)

all_above : (k : ℕ) (es : List (ℕ × IntfRec)) (x : ℕ × IntfRec) → IsBelow nat_cmp k es → Ascends nat_cmp es → Contains es x → k ≤ x.0
all_above k [] x below asc has = absurd (contains_none x has)
all_above k (e ∷ es) x below asc has = elim (contains_cases e es x has) [
  | inl is ↦ let first : x.0 ≡ e.0 = ap (λ (y : ℕ × IntfRec). y.0) is in omega (arith, first, less-than k e.0 below)
  | inr rest ↦ let next : e.0 ≤ x.0 = all_above e.0 es x asc.0 asc.1 rest in omega (arith, next, less-than k e.0 below)
]

least_found : (vrf : ℕ) (prefix : Cidr) (intfs : List (ℕ × IntfRec)) (e : ℕ × IntfRec) → Ascends nat_cmp intfs → find (has_subnet_in vrf prefix) intfs ≡ Some e → IsLeastIntf vrf prefix intfs e
least_found vrf prefix [] e asc = λ is. absurd (none_some is)
least_found vrf prefix (x ∷ xs) e asc = cond_both (has_subnet_in vrf prefix x) (Some x) (find (has_subnet_in vrf prefix) xs) (λ o. o ≡ Some e → IsLeastIntf vrf prefix (x ∷ xs) e)
    (λ has is. subst (λ (y : ℕ × IntfRec). IsLeastIntf vrf prefix (x ∷ xs) y) (some_is is) (record {
      among = contains_first x xs;
      has = has;
      least = λ y among _. elim (contains_cases x xs y among) [ inl same_one ↦ let first : y.0 ≡ x.0 = ap (λ (z : ℕ × IntfRec). z.0) same_one in omega (arith, first) | inr rest ↦ all_above x.0 xs y asc.0 asc.1 rest ];
    }))
    (λ fails is. let f = least_found vrf prefix xs e asc.1 is in record {
      among = contains_later x xs e f.among;
      has = f.has;
      least = λ y among has. elim (contains_cases x xs y among) [
        | inl same_one ↦ let no : true ≡ false = sym has ∙ ap (has_subnet_in vrf prefix) same_one ∙ fails in absurd (cc)
        | inr rest ↦ f.least y rest has
      ];
    })

none_has : (vrf : ℕ) (prefix : Cidr) (intfs : List (ℕ × IntfRec)) → ((x : ℕ × IntfRec) → Contains intfs x → has_subnet_in vrf prefix x ≡ true → ⊥) → find (has_subnet_in vrf prefix) intfs ≡ None
none_has vrf prefix [] none = refl
none_has vrf prefix (x ∷ xs) none = cond_both (has_subnet_in vrf prefix x) (Some x) (find (has_subnet_in vrf prefix) xs) (λ o. o ≡ None)
    (λ has. absurd (none x (contains_first x xs) has))
    (λ _. none_has vrf prefix xs (λ y among has. none y (contains_later x xs y among) has))

-- what is kept of a look-up: the interface, where the subnet is that prefix
abbrev pub is_of : RouteKey → Subnet → Bool
is_of key k = same_key key (key_of_subnet k)

abbrev pub intf_kept : RouteKey → Option Subnet → Option ℕ
intf_kept key None = None
intf_kept key (Some k) = if is_of key k then Some k.intf else None

abbrev pub is_from : RouteKey → Subnet → Bool
is_from key k = not (is_lt (subnet_cmp k (with_intf 1 key)))

le-not_tied : (o : Ordering) → is_le o ≡ true → (o ≡ Equal → ⊥) → o ≡ Less
le-not_tied Less le apart = refl
le-not_tied Equal le apart = absurd (apart refl)
le-not_tied Greater le apart = absurd (cc)

le_trail : (o p : Ordering) → o ≡ Equal → ordering_then o p ≡ p
le_trail Less p h = absurd (cc)
le_trail Equal p h = refl
le_trail Greater p h = absurd (cc)

le_number : (x y : ℕ) → is_le (nat_cmp x y) ≡ true → x ≤ y
le_number x y le = by (nat_cmp x y) refl
  where
    by : (o : Ordering) → o ≡ nat_cmp x y → x ≤ y
    by Less is = let rank : x < y = ranked x y Less is in omega (arith, rank)
    by Equal is = let rank : x ≡ y = ranked x y Equal is in omega (arith, rank)
    by Greater is = let no : true ≡ false = sym le ∙ ap is_le (sym is) in absurd (cc)

module _ (intfs : List (ℕ × IntfRec)) (keys : List Subnet) (asc : Ascends nat_cmp intfs) (are : AreSubnets intfs keys) (key : RouteKey) where
  over : IsOver subnet_cmp subnet_rest key_of_subnet (with_intf 1) (with_intf 4294967295) keys
  over = subnets_over keys are.bounded

  from_le : (k : Subnet) → Contains keys k → is_from key k ≡ is_le (route_cmp key (key_of_subnet k))
  from_le k has = ap not (lt_turned subnet_cmp subnet_order (with_intf 1 key) k) ∙ twice (is_le (subnet_cmp (with_intf 1 key) k)) ∙ le_low subnet_cmp subnet_rest key_of_subnet (with_intf 1) (with_intf 4294967295) keys over key k has
    where
      twice : (b : Bool) → not (not b) ≡ b
      twice true = refl
      twice false = refl

  -- an interface that has the subnet is listed under it
  listed : (x : ℕ × IntfRec) → Contains intfs x → has_subnet_in key.vrf key.prefix x ≡ true → Contains keys (with_intf x.0 key)
  listed x among has = (are.exact (with_intf x.0 key)).1 (record { intf = x.1; among = among; has = has })

  from_key : (intf : ℕ) → Contains keys (with_intf intf key) → is_from key (with_intf intf key) ≡ true
  from_key intf has = from_le (with_intf intf key) has ∙ ap is_le (same route_cmp route_order key)

  absent : ((k : Subnet) → Contains keys k → key_of_subnet k ≡ key → ⊥) → find (has_subnet_in key.vrf key.prefix) intfs ≡ None
  absent none = none_has key.vrf key.prefix intfs (λ x among has. none (with_intf x.0 key) (listed x among has) refl)

  pub connected-first : (found : Option Subnet) → found ≡ find (is_from key) keys → option_map (λ (e : ℕ × IntfRec). e.0) (find (has_subnet_in key.vrf key.prefix) intfs) ≡ intf_kept key found
  connected-first None is = ap (option_map (λ (e : ℕ × IntfRec). e.0)) (absent (λ k has over_key. none-found subnet_cmp subnet_order (is_from key) keys (sym is) k has (from_le k has ∙ ap (λ (j : RouteKey). is_le (route_cmp key j)) over_key ∙ ap is_le (same route_cmp route_order key))))
  connected-first (Some k) is = elim (cases_Bool (is_of key k)) [
    | inl of_key ↦
        let key_is : key ≡ key_of_subnet k = sym (same_key-is key (key_of_subnet k) of_key) in
        rw of_key (of_first k f key_is (find (has_subnet_in key.vrf key.prefix) intfs) refl)
    | inr other ↦
        let past : route_cmp key (key_of_subnet k) ≡ Less = le-not_tied (route_cmp key (key_of_subnet k)) (sym (from_le k f.among) ∙ f.passes) (λ tied. let no : true ≡ false = sym (is-same_key key (key_of_subnet k) (sym (route_order.exact key (key_of_subnet k) tied))) ∙ other in cc) in
        rw other (ap (option_map (λ (e : ℕ × IntfRec). e.0)) (absent (λ j has over_key. later_none j has over_key past)))
  ]
    where
      f : IsFirst subnet_cmp (is_from key) keys k
      f = first-found subnet_cmp subnet_order (is_from key) keys k are.ascend (sym is)

      first_rest : (j : Subnet) → Contains keys j → key_of_subnet j ≡ key → is_le (subnet_cmp k j) ≡ true
      first_rest j has over_key = f.first j has (from_le j has ∙ ap (λ (i : RouteKey). is_le (route_cmp key i)) over_key ∙ ap is_le (same route_cmp route_order key))

      later_none : (j : Subnet) → Contains keys j → key_of_subnet j ≡ key → route_cmp key (key_of_subnet k) ≡ Less → ⊥
      later_none j has over_key past =
          let turned : route_cmp (key_of_subnet k) (key_of_subnet j) ≡ Greater = ap (route_cmp (key_of_subnet k)) over_key ∙ route_order.total.antisymm (key_of_subnet k) key ∙ ap ordering_reverse past in
          let no : true ≡ false = sym (first_rest j has over_key) ∙ ap is_le (over.splits k j) ∙ ap (λ (o : Ordering). is_le (ordering_then o (subnet_rest k j))) turned in
          cc

      of_first : (k : Subnet) → IsFirst subnet_cmp (is_from key) keys k → key ≡ key_of_subnet k → (o : Option (ℕ × IntfRec)) → find (has_subnet_in key.vrf key.prefix) intfs ≡ o → option_map (λ (e : ℕ × IntfRec). e.0) (find (has_subnet_in key.vrf key.prefix) intfs) ≡ Some k.intf
      of_first k f key_is None none =
          let at = (are.exact k).0 f.among in
          let has : has_subnet_in key.vrf key.prefix (k.intf, at.intf) ≡ true = subst (λ (j : RouteKey). has_subnet_in j.vrf j.prefix (k.intf, at.intf) ≡ true) (sym key_is) at.has in
          absurd (found_not key.vrf key.prefix intfs (k.intf, at.intf) none at.among has)
        where
          found_not : (vrf : ℕ) (prefix : Cidr) (l : List (ℕ × IntfRec)) (x : ℕ × IntfRec) → find (has_subnet_in vrf prefix) l ≡ None → Contains l x → has_subnet_in vrf prefix x ≡ true → ⊥
          found_not vrf prefix [] x = λ none among has. contains_none x among
          found_not vrf prefix (y ∷ ys) x = cond_both (has_subnet_in vrf prefix y) (Some y) (find (has_subnet_in vrf prefix) ys) (λ o. o ≡ None → Contains (y ∷ ys) x → has_subnet_in vrf prefix x ≡ true → ⊥)
              (λ _ none among has. none_some (sym none))
              (λ fails none among has. elim (contains_cases y ys x among) [
                | inl same_one ↦ let no : true ≡ false = sym has ∙ ap (has_subnet_in vrf prefix) same_one ∙ fails in cc
                | inr rest ↦ found_not vrf prefix ys x none rest has
              ])
      of_first k f key_is (Some e) some =
          let l = least_found key.vrf key.prefix intfs e asc some in
          let at = (are.exact k).0 f.among in
          let has : has_subnet_in key.vrf key.prefix (k.intf, at.intf) ≡ true = subst (λ (j : RouteKey). has_subnet_in j.vrf j.prefix (k.intf, at.intf) ≡ true) (sym key_is) at.has in
          let least : e.0 ≤ k.intf = l.least (k.intf, at.intf) at.among has in
          let mine : Contains keys (with_intf e.0 key) = listed e l.among l.has in
          let le : is_le (subnet_cmp k (with_intf e.0 key)) ≡ true = f.first (with_intf e.0 key) mine (from_key e.0 mine) in
          let tied : route_cmp (key_of_subnet k) key ≡ Equal = ap (λ (j : RouteKey). route_cmp j key) (sym key_is) ∙ same route_cmp route_order key in
          let rest : is_le (nat_cmp k.intf e.0) ≡ true = ap is_le (sym (over.splits k (with_intf e.0 key) ∙ le_trail (route_cmp (key_of_subnet k) key) (nat_cmp k.intf e.0) tied)) ∙ le in
          let first : k.intf ≤ e.0 = le_number k.intf e.0 rest in
          let one : e.0 ≡ k.intf = omega (arith, least, first) in
          ap (option_map (λ (x : ℕ × IntfRec). x.0)) some ∙ ap Some one

  -- the prefixes of subnets are those of the interfaces
  pub subnet-has : (k : RouteKey) → Contains (map key_of_subnet keys) k → IsSome (find (has_subnet_in k.vrf k.prefix) intfs)
  subnet-has k has =
      let x = contains_map key_of_subnet keys k has in
      let at = (are.exact x.0).0 x.1 in
      some_by (find (has_subnet_in k.vrf k.prefix) intfs) (λ none. find_not k.vrf k.prefix intfs (x.0.intf, at.intf) none at.among (subst (λ (j : RouteKey). has_subnet_in j.vrf j.prefix (x.0.intf, at.intf) ≡ true) x.2 at.has))
    where
      some_by : {V : Type 0} (o : Option V) → (o ≡ None → ⊥) → IsSome o
      some_by None not = absurd (not refl)
      some_by (Some v) not = refl

      find_not : (vrf : ℕ) (prefix : Cidr) (l : List (ℕ × IntfRec)) (x : ℕ × IntfRec) → find (has_subnet_in vrf prefix) l ≡ None → Contains l x → has_subnet_in vrf prefix x ≡ true → ⊥
      find_not vrf prefix [] x = λ none among has. contains_none x among
      find_not vrf prefix (y ∷ ys) x = cond_both (has_subnet_in vrf prefix y) (Some y) (find (has_subnet_in vrf prefix) ys) (λ o. o ≡ None → Contains (y ∷ ys) x → has_subnet_in vrf prefix x ≡ true → ⊥)
          (λ _ none among has. none_some (sym none))
          (λ fails none among has. elim (contains_cases y ys x among) [
            | inl same_one ↦ let no : true ≡ false = sym has ∙ ap (has_subnet_in vrf prefix) same_one ∙ fails in cc
            | inr rest ↦ find_not vrf prefix ys x none rest has
          ])
