-- The moved keys can be listed, and in one way alone.
use Rattle.std.proofs.Common.{◌≡◌, ◌≢◌, ◌↔◌, ◌⊎◌, ℕ, Option, None, Some, List, [], ◌∷◌, ◌++◌, refl, sym, ◌∙◌, subst, inl, inr}
use Rattle.std.specs.List.{Contains}
use Rattle.std.specs.Option.{IsSome}
use Rattle.std.proofs.lemmas.List.Elements.{Contains-append_left, Contains-append_right}
use Rattle.keyed.specs.Members.{contains_first, contains_later, contains_cases, contains_none}
use Rattle.keyed.specs.SetLaws.{ascends-set_of, set_of_contains, contains_set_of, same_members}
use Rattle.keyed.specs.Sets.{set_of}
use Rattle.net_types.specs.declared.hop.Hop.{Hop}
use Rattle.net_types.specs.declared.table.RouteKey.{RouteKey}
use Rattle.net_types.specs.KeyOrder.{route_cmp, route_order}
use Rattle.switch_model.specs.BestRoute.{BestRoute, best}
use Rattle.switch_model.specs.LongestMatch.{best_keys}
use Rattle.switch_model.specs.PlainState.{Rib}
use Rattle.switch_model.specs.Reach.{hops_of_best}
use Rattle.route_laws.proofs.BestLaws.{has-best_keys}
use Rattle.route_laws.proofs.Decided.{decide_bool, decide_some}
use Rattle.route_laws.proofs.Finds.{none_some, some_is}
use Rattle.route_laws.specs.Local.{is_in}
use Rattle.route_laws.specs.Moved.{AreMoved, HasMoved, IsMoved}

-- those items of a list of which something holds
record Chosen {A : Type 0} (P : A → Type 0) (xs : List A) : Type 0 where
  list : List A
  exact : (x : A) → Contains list x ↔ (Contains xs x × P x)

choose : {A : Type 0} (P : A → Type 0) (xs : List A) → ((x : A) → P x ⊎ (P x → ⊥)) → Chosen P xs
choose P [] told = record { list = []; exact = λ x. ((λ has. absurd (contains_none x has)), (λ both. absurd (contains_none x both.0))) }
choose {A = A} P (y ∷ ys) told =
    let rest = choose P ys told in
    elim (told y) [
      | inl holds ↦ record {
        list = y ∷ rest.list;
        exact = λ x. (
          (λ has. elim (contains_cases y rest.list x has) [
            | inl is ↦ (subst (λ (z : A). Contains (y ∷ ys) z) (sym is) (contains_first y ys), subst P (sym is) holds)
            | inr more ↦ let m = (rest.exact x).0 more in (contains_later y ys x m.0, m.1)
          ]),
          (λ both. elim (contains_cases y ys x both.0) [
            | inl is ↦ subst (λ (z : A). Contains (y ∷ rest.list) z) (sym is) (contains_first y rest.list)
            | inr more ↦ contains_later y rest.list x ((rest.exact x).1 (more, both.1))
          ]),
        );
      }
      | inr fails ↦ record {
        list = rest.list;
        exact = λ x. (
          (λ has. let m = (rest.exact x).0 has in (contains_later y ys x m.0, m.1)),
          (λ both. elim (contains_cases y ys x both.0) [ inl is ↦ absurd (fails (subst P is both.1)) | inr more ↦ (rest.exact x).1 (more, both.1) ]),
        );
      }
    ]

module _ (old new : Rib) (vrf : ℕ) where
  -- the hop names an interface that is in the VRF in one of the two states alone
  record MovedHop (hop : Hop) : Type 0 where
    intf : ℕ
    names : hop.intf ≡ Some intf
    moved : is_in old vrf intf ≢ is_in new vrf intf

  -- one of the hops does
  record AnyMoved (hops : List Hop) : Type 0 where
    hop : Hop
    has : Contains hops hop
    is : MovedHop hop

  told_by : (hop : Hop) (o : Option ℕ) → hop.intf ≡ o → MovedHop hop ⊎ (MovedHop hop → ⊥)
  told_by hop None is = inr (λ m. none_some (sym is ∙ m.names))
  told_by hop (Some intf) is = elim (decide_bool (is_in old vrf intf) (is_in new vrf intf)) [
    | inl same ↦ inr (λ m. let named : intf ≡ m.intf = some_is (sym is ∙ m.names) in m.moved (subst (λ (i : ℕ). is_in old vrf i ≡ is_in new vrf i) named same))
    | inr differ ↦ inl (record { intf = intf; names = is; moved = differ })
  ]

  told_hops : (hops : List Hop) → AnyMoved hops ⊎ (AnyMoved hops → ⊥)
  told_hops [] = inr (λ m. contains_none m.hop m.has)
  told_hops (hop ∷ hops) = elim (told_by hop hop.intf refl) [
    | inl moved ↦ inl (record { hop = hop; has = contains_first hop hops; is = moved })
    | inr stays ↦ elim (told_hops hops) [
      | inl m ↦ inl (record { hop = m.hop; has = contains_later hop hops m.hop m.has; is = m.is })
      | inr none ↦ inr (λ m. elim (contains_cases hop hops m.hop m.has) [
        | inl is ↦ stays (subst (λ (h : Hop). MovedHop h) is m.is)
        | inr more ↦ none (record { hop = m.hop; has = more; is = m.is })
      ])
    ]
  ]

told_moved : (old new : Rib) (key : RouteKey) → IsMoved old new key ⊎ (IsMoved old new key → ⊥)
told_moved old new key = elim (decide_some (best old key.vrf key.prefix) (best new key.vrf key.prefix)) [
  | inr differ ↦ inl (inl differ)
  | inl same ↦ elim (told_hops old new key.vrf (hops_of_best (best new key.vrf key.prefix))) [
    | inl m ↦ inl (inr (record { hop = m.hop; intf = m.is.intf; has = m.has; names = m.is.names; moved = m.is.moved }))
    | inr none ↦ inr (λ moved. elim moved [
      | inl differ ↦ differ same
      | inr m ↦ none (record { hop = m.hop; has = m.has; is = record { intf = m.intf; names = m.names; moved = m.moved } })
    ])
  ]
]

-- a moved key has a best route in one of the two states
one_some : (o n : Option BestRoute) → o ≢ n → IsSome o ⊎ IsSome n
one_some None None differ = absurd (differ refl)
one_some None (Some n) differ = inr refl
one_some (Some o) n differ = inl refl

hop_some : (o : Option BestRoute) (hop : Hop) → Contains (hops_of_best o) hop → IsSome o
hop_some None hop has = absurd (contains_none hop has)
hop_some (Some b) hop has = refl

moved-listed : (old new : Rib) (key : RouteKey) → IsMoved old new key → Contains (best_keys old ++ best_keys new) key
moved-listed old new key moved = elim moved [
  | inl differ ↦ elim (one_some (best old key.vrf key.prefix) (best new key.vrf key.prefix) differ) [
    | inl before ↦ Contains-append_left (best_keys old) (best_keys new) key (has-best_keys old key before)
    | inr after ↦ Contains-append_right (best_keys old) (best_keys new) key (has-best_keys new key after)
  ]
  | inr m ↦ Contains-append_right (best_keys old) (best_keys new) key (has-best_keys new key (hop_some (best new key.vrf key.prefix) m.hop m.has))
]

pub moved-had : (old new : Rib) → HasMoved old new
moved-had old new =
    let chosen = choose (λ (key : RouteKey). IsMoved old new key) (best_keys old ++ best_keys new) (told_moved old new) in
    record {
      moved = set_of route_cmp chosen.list;
      are = record {
        ascend = ascends-set_of route_cmp route_order.total chosen.list;
        exact = λ key. (
          (λ has. ((chosen.exact key).0 (contains_set_of route_cmp route_order chosen.list key has)).1),
          (λ moved. set_of_contains route_cmp route_order chosen.list key ((chosen.exact key).1 (moved-listed old new key moved, moved))),
        );
      };
    }

pub moved-one : (old new : Rib) (moved other : List RouteKey) → AreMoved old new moved → AreMoved old new other → moved ≡ other
moved-one old new moved other a b = same_members route_cmp route_order moved other a.ascend b.ascend (λ key. ((λ has. (b.exact key).1 ((a.exact key).0 has)), (λ has. (a.exact key).1 ((b.exact key).0 has))))
