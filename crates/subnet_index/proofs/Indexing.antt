-- An index stays that of the entries when one entry changes: what the old value alone gave is cut, and what the new one alone gives is put.
use Rattle.std.proofs.Common.{◌≡◌, ◌≢◌, Bool, true, false, not, List, [], ◌∷◌, ◌++◌, Option, None, Some, refl, sym, ap, ◌∙◌, subst, inl, inr, ◌⊎◌}
use Rattle.std.specs.Cmp.{Equal-is}
use Rattle.std.specs.List.{Contains, filter, flat_map}
use Rattle.std.specs.List.Sorted.{IsStrictlySortedBy}
use Rattle.std.specs.Ordering.{eq_by_cmp}
use Rattle.std.specs.declared.cmp.Ordering.{Ordering}
use Rattle.keyed.specs.Keyed.{IsKeyOrder, at, Ascends}
use Rattle.keyed.specs.KeyedLaws.{at-put, at-put_other, at-without, at-without_other, ascends-put, ascends-without, decide, same}
use Rattle.keyed.specs.Members.{contains_first, contains_later, contains_cases, contains_none, contains_filter, filter_contains, contains_flat_map, flat_map_contains}
use Rattle.keyed.specs.Sets.{insert, delete}
use Rattle.keyed.specs.SetLaws.{ascends-delete, ascends-insert, ascends-set_of, contains_insert, contains_set_of, delete_filter, insert_contains, is_set_of, set_of_contains}
use Rattle.keyed.specs.ValueLaws.{among-at, at-among}
use Rattle.subnet_index.specs.Index.{entry_changed, given, index_of, with_all, without_all}

-- what stands in a list with some items, or without them
module _ {X : Type 0} (cmp : X → X → Ordering) (order : IsKeyOrder cmp) where
  not_tied : (k y : X) → not (eq_by_cmp cmp k y) ≡ true → y ≢ k
  not_tied k y passes is =
      let tied : eq_by_cmp cmp k y ≡ true = (Equal-is (cmp k y)).1 (ap (cmp k) is ∙ same cmp order k) in
      let no : false ≡ true = sym (ap not tied) ∙ passes in
      absurd (cc)

  tied_not : (k y : X) (b : Bool) → eq_by_cmp cmp k y ≡ b → y ≢ k → not b ≡ true
  tied_not k y true tied apart = absurd (apart (sym (order.exact k y ((Equal-is (cmp k y)).0 tied))))
  tied_not k y false tied apart = refl

  contains_delete : (k : X) (xs : List X) (y : X) → IsStrictlySortedBy cmp xs → Contains (delete cmp k xs) y → (y ≢ k) × Contains xs y
  contains_delete k xs y asc has =
      let found = contains_filter (λ x. not (eq_by_cmp cmp k x)) xs y (subst (λ (l : List X). Contains l y) (delete_filter cmp order.total k xs asc) has) in
      (not_tied k y found.1, found.0)

  delete_contains : (k : X) (xs : List X) (y : X) → IsStrictlySortedBy cmp xs → y ≢ k → Contains xs y → Contains (delete cmp k xs) y
  delete_contains k xs y asc apart has = subst (λ (l : List X). Contains l y) (sym (delete_filter cmp order.total k xs asc)) (filter_contains (λ x. not (eq_by_cmp cmp k x)) xs y has (tied_not k y (eq_by_cmp cmp k y) refl apart))

  contains_with : (ys xs : List X) (y : X) → Contains (with_all cmp ys xs) y → Contains ys y ⊎ Contains xs y
  contains_with [] xs y has = inr has
  contains_with (s ∷ ss) xs y has = elim (contains_with ss (insert cmp s xs) y has) [
    | inl later ↦ inl (contains_later s ss y later)
    | inr here ↦ elim (contains_insert cmp order s xs y here) [ inl is ↦ inl (subst (λ (z : X). Contains (s ∷ ss) z) (sym is) (contains_first s ss)) | inr old ↦ inr old ]
  ]

  with_contains : (ys xs : List X) (y : X) → Contains ys y ⊎ Contains xs y → Contains (with_all cmp ys xs) y
  with_contains [] xs y has = elim has [ inl none ↦ absurd (contains_none y none) | inr old ↦ old ]
  with_contains (s ∷ ss) xs y has = with_contains ss (insert cmp s xs) y (elim has [
    | inl here ↦ elim (contains_cases s ss y here) [ inl is ↦ inr (insert_contains cmp order s xs y (inl is)) | inr rest ↦ inl rest ]
    | inr old ↦ inr (insert_contains cmp order s xs y (inr old))
  ])

  ascends-with : (ys xs : List X) → IsStrictlySortedBy cmp xs → IsStrictlySortedBy cmp (with_all cmp ys xs)
  ascends-with [] xs asc = asc
  ascends-with (s ∷ ss) xs asc = ascends-with ss (insert cmp s xs) (ascends-insert cmp order.total s xs asc)

  ascends-without_all : (ys xs : List X) → IsStrictlySortedBy cmp xs → IsStrictlySortedBy cmp (without_all cmp ys xs)
  ascends-without_all [] xs asc = asc
  ascends-without_all (s ∷ ss) xs asc = ascends-without_all ss (delete cmp s xs) (ascends-delete cmp order.total s xs asc)

  contains_without : (ys xs : List X) (y : X) → IsStrictlySortedBy cmp xs → Contains (without_all cmp ys xs) y → Contains xs y × (Contains ys y → ⊥)
  contains_without [] xs y asc has = (has, contains_none y)
  contains_without (s ∷ ss) xs y asc has =
      let later = contains_without ss (delete cmp s xs) y (ascends-delete cmp order.total s xs asc) has in
      let here = contains_delete s xs y asc later.0 in
      (here.1, λ there. elim (contains_cases s ss y there) [ inl is ↦ here.0 is | inr rest ↦ later.1 rest ])

  without_contains : (ys xs : List X) (y : X) → IsStrictlySortedBy cmp xs → Contains xs y → (Contains ys y → ⊥) → Contains (without_all cmp ys xs) y
  without_contains [] xs y asc has none = has
  without_contains (s ∷ ss) xs y asc has none = without_contains ss (delete cmp s xs) y (ascends-delete cmp order.total s xs asc) (delete_contains s xs y asc (λ is. none (subst (λ (z : X). Contains (s ∷ ss) z) (sym is) (contains_first s ss))) has) (λ there. none (contains_later s ss y there))

-- what is under a key after a change
module _ {K V : Type 0} (cmp : K → K → Ordering) (order : IsKeyOrder cmp) where
  at_changed : (key : K) (o : Option V) (entries : List (K × V)) → Ascends cmp entries → at cmp key (entry_changed cmp key o entries) ≡ o
  at_changed key None entries asc = at-without cmp order key entries asc
  at_changed key (Some value) entries asc = at-put cmp order key value entries

  at_changed_other : (q key : K) (o : Option V) (entries : List (K × V)) → Ascends cmp entries → q ≢ key → at cmp q (entry_changed cmp key o entries) ≡ at cmp q entries
  at_changed_other q key None entries asc apart = at-without_other cmp order q key entries asc apart
  at_changed_other q key (Some value) entries asc apart = at-put_other cmp order q key value entries apart

  ascends_changed : (key : K) (o : Option V) (entries : List (K × V)) → Ascends cmp entries → Ascends cmp (entry_changed cmp key o entries)
  ascends_changed key None entries asc = ascends-without cmp order key entries asc
  ascends_changed key (Some value) entries asc = ascends-put cmp order key value entries asc

-- what the entries give, where each item tells the key of its entry
module _ {K V X : Type 0} (key_cmp : K → K → Ordering) (key_order : IsKeyOrder key_cmp) (gives : K × V → List X) (own : X → K) (own_is : (e : K × V) (x : X) → Contains (gives e) x → own x ≡ e.0) where
  own_given : (key : K) (o : Option V) (x : X) → Contains (given gives key o) x → own x ≡ key
  own_given key None x has = absurd (contains_none x has)
  own_given key (Some value) x has = own_is (key, value) x has

  pub given_of : (entries : List (K × V)) (x : X) → Ascends key_cmp entries → Contains (flat_map gives entries) x → Contains (given gives (own x) (at key_cmp (own x) entries)) x
  given_of entries x asc has =
      let found = contains_flat_map gives entries x has in
      let e = found.0 in
      let entry : at key_cmp e.0 entries ≡ Some e.1 = at-among key_cmp key_order e entries asc (found.1.0, (found.1.1, sym found.1.2)) in
      let key : e.0 ≡ own x = sym (own_is e x found.2) in
      let there : Contains (given gives e.0 (at key_cmp e.0 entries)) x = subst (λ (o : Option V). Contains (given gives e.0 o) x) (sym entry) found.2 in
      subst (λ (k : K). Contains (given gives k (at key_cmp k entries)) x) key there

  pub of_given : (entries : List (K × V)) (key : K) (o : Option V) (x : X) → at key_cmp key entries ≡ o → Contains (given gives key o) x → Contains (flat_map gives entries) x
  of_given entries key None x entry has = absurd (contains_none x has)
  of_given entries key (Some value) x entry has =
      let there = among-at key_cmp key_order key value entries entry in
      let e : Contains entries (key, value) = (there.0, there.1.0, sym there.1.1) in
      flat_map_contains gives entries (key, value) x e has

  module _ (cmp : X → X → Ordering) (order : IsKeyOrder cmp) (entries : List (K × V)) (key : K) (old new : Option V) (gone come : List X) (asc : Ascends key_cmp entries) (before : at key_cmp key entries ≡ old)
      (gone_old : (x : X) → Contains gone x → Contains (given gives key old) x × (Contains (given gives key new) x → ⊥))
      (old_gone : (x : X) → Contains (given gives key old) x → Contains (given gives key new) x ⊎ Contains gone x)
      (come_new : (x : X) → Contains come x → Contains (given gives key new) x)
      (new_come : (x : X) → Contains (given gives key new) x → Contains come x ⊎ Contains (given gives key old) x) where
    abbrev after : List (K × V)
    after = entry_changed key_cmp key new entries

    abbrev was : List X
    was = index_of cmp gives entries

    was_ascends : IsStrictlySortedBy cmp was
    was_ascends = ascends-set_of cmp order.total (flat_map gives entries)

    now_given : (x : X) → Contains (given gives key new) x → Contains (flat_map gives after) x
    now_given x has = of_given after key new x (at_changed key_cmp key_order key new entries asc) has

    to : (x : X) → Contains (with_all cmp come (without_all cmp gone was)) x → Contains (flat_map gives after) x
    to x has = elim (contains_with cmp order come (without_all cmp gone was) x has) [
      | inl here ↦ now_given x (come_new x here)
      | inr rest ↦
          let kept = contains_without cmp order gone was x was_ascends rest in
          let there = given_of entries x asc (contains_set_of cmp order (flat_map gives entries) x kept.0) in
          elim (decide key_cmp key_order (own x) key) [
            | inl is ↦
                let at_key : Contains (given gives key (at key_cmp key entries)) x = subst (λ (k : K). Contains (given gives k (at key_cmp k entries)) x) is there in
                let of_old : Contains (given gives key old) x = subst (λ (o : Option V). Contains (given gives key o) x) before at_key in
                elim (old_gone x of_old) [ inl stays ↦ now_given x stays | inr goes ↦ absurd (kept.1 goes) ]
            | inr apart ↦ of_given after (own x) (at key_cmp (own x) entries) x (at_changed_other key_cmp key_order (own x) key new entries asc apart) there
          ]
    ]

    from : (x : X) → Contains (flat_map gives after) x → Contains (with_all cmp come (without_all cmp gone was)) x
    from x has =
        let there = given_of after x (ascends_changed key_cmp key_order key new entries asc) has in
        with_contains cmp order come (without_all cmp gone was) x (elim (decide key_cmp key_order (own x) key) [
          | inl is ↦
              let at_key : Contains (given gives key (at key_cmp key after)) x = subst (λ (k : K). Contains (given gives k (at key_cmp k after)) x) is there in
              let of_new : Contains (given gives key new) x = subst (λ (o : Option V). Contains (given gives key o) x) (at_changed key_cmp key_order key new entries asc) at_key in
              elim (new_come x of_new) [
                | inl comes ↦ inl comes
                | inr of_old ↦ inr (without_contains cmp order gone was x was_ascends (set_of_contains cmp order (flat_map gives entries) x (of_given entries key old x before of_old)) (λ goes. (gone_old x goes).1 of_new))
              ]
          | inr apart ↦
              let older : Contains (given gives (own x) (at key_cmp (own x) entries)) x = subst (λ (o : Option V). Contains (given gives (own x) o) x) (at_changed_other key_cmp key_order (own x) key new entries asc apart) there in
              let whole : Contains was x = set_of_contains cmp order (flat_map gives entries) x (of_given entries (own x) (at key_cmp (own x) entries) x refl older) in
              inr (without_contains cmp order gone was x was_ascends whole (λ goes. apart (own_given key old x (gone_old x goes).0)))
        ])

    pub index_changed : with_all cmp come (without_all cmp gone (index_of cmp gives entries)) ≡ index_of cmp gives (entry_changed key_cmp key new entries)
    index_changed = is_set_of cmp order (with_all cmp come (without_all cmp gone was)) (flat_map gives after) (ascends-with cmp order come (without_all cmp gone was) (ascends-without_all cmp order gone was was_ascends)) (λ x. (to x, from x))
