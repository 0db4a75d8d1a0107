-- The changes of two lists, by their least key and the changes of what is left.
use Rattle.std.proofs.Common.{◌≡◌, ◌≢◌, Bool, true, false, Option, None, Some, List, [], ◌∷◌, ◌++◌, map, refl, sym, ap, ◌∙◌, subst, append-nil, append_assoc, inl, inr}
use Rattle.std.proofs.lemmas.Bool.{cases_Bool, false≢true}
use Rattle.std.specs.List.{Contains}
use Rattle.std.specs.Option.{option_eq}
use Rattle.std.specs.Ordering.{ordering_reverse}
use Rattle.std.specs.declared.cmp.Ordering.{Ordering}
use Rattle.std.specs.declared.cmp.Ordering.TheVariants.{Less}
use Rattle.keyed.specs.FrontLaws.{ascends_front}
use Rattle.keyed.specs.Keyed.{IsKeyOrder, at, Ascends, IsBelow}
use Rattle.keyed.specs.KeyedLaws.{below_at, below_before, by_order, decide, same}
use Rattle.keyed.specs.Members.{contains_first, contains_later, contains_cases, contains_none}
use Rattle.chip_core.specs.ChangeLists.{Change, IsAscending, by_key}
use Rattle.row_change_laws.specs.Between.{AreChangesBetween}
use Rattle.row_change_laws.specs.Made.{plain_changes}
use Rattle.row_change_laws.proofs.MadeLaws.{plain_made}
use Rattle.row_compare.specs.Compare.{IsTest, change_of}
use Rattle.row_compare.specs.Front.{IsLeast, with_first}

nothing_differs : {K V : Type 0} (cmp : K → K → Ordering) → AreChangesBetween {K = K} {V = V} cmp [] [] []
nothing_differs cmp = record { ascending = tt; each = λ c has. absurd (contains_none c has); rest = record { same = λ k absent. refl } }

-- what a test of rows tells of rows that may be missing
pub rows_same : {V : Type 0} (same : V → V → Bool) → IsTest same → (a b : Option V) → option_eq same a b ≡ true → a ≡ b
rows_same same test None None e = refl
rows_same same test None (Some y) e = absurd (false≢true e)
rows_same same test (Some x) None e = absurd (false≢true e)
rows_same same test (Some x) (Some y) e = ap Some ((test x y).0 e)

row_itself : {V : Type 0} (same : V → V → Bool) → IsTest same → (a : Option V) → option_eq same a a ≡ true
row_itself same test None = refl
row_itself same test (Some x) = (test x x).1 refl

pub rows_differ : {V : Type 0} (same : V → V → Bool) → IsTest same → (a b : Option V) → option_eq same a b ≡ false → a ≢ b
rows_differ {V} same test a b e is = false≢true (sym e ∙ subst (λ (x : Option V). option_eq same a x ≡ true) is (row_itself same test a))

-- where a comparison stands: with the changes of what is left, what was found makes all changes
pub record IsComparing {K V : Type 0} (cmp : K → K → Ordering) (old new old_left new_left : List (K × V)) (found : List (Change K V)) : Type 0 where
  pub old_ascends : Ascends cmp old_left
  pub new_ascends : Ascends cmp new_left
  pub makes : (more : List (Change K V)) → AreChangesBetween cmp more old_left new_left → AreChangesBetween cmp (found ++ more) old new

module _ {K V : Type 0} (cmp : K → K → Ordering) (order : IsKeyOrder cmp) where
  -- a look-up in rows with another one in front
  at_first : (k : K) (a : Option V) (rows : List (K × V)) → IsBelow cmp k rows → at cmp k (with_first k a rows) ≡ a
  at_first k None rows below = below_at cmp order k rows below
  at_first k (Some v) rows below = rw (same cmp order k) refl

  at_later : (j k : K) (a : Option V) (rows : List (K × V)) → IsBelow cmp k rows → j ≢ k → at cmp j (with_first k a rows) ≡ at cmp j rows
  at_later j k None rows below other = refl
  at_later j k (Some v) rows below other = by_order (cmp j k)
      (λ h. rw h (sym (below_at cmp order j rows (below_before cmp order j k rows h below))))
      (λ h. absurd (other (order.exact j k h)))
      (λ h. rw h refl)

  module _ (k : K) (a b : Option V) (xs ys : List (K × V)) (below_xs : IsBelow cmp k xs) (below_ys : IsBelow cmp k ys) (more : List (Change K V)) (between : AreChangesBetween cmp more xs ys) where
    -- the key of a later change isn't this one, and is above it
    later_other : (c : Change K V) → Contains more c → c.0 ≢ k
    later_other c has is =
        let facts = between.each c has in
        let old : c.1 ≡ None = sym facts.0 ∙ ap (λ (j : K). at cmp j xs) is ∙ below_at cmp order k xs below_xs in
        let new : c.2 ≡ None = sym facts.1 ∙ ap (λ (j : K). at cmp j ys) is ∙ below_at cmp order k ys below_ys in
        facts.2 (old ∙ sym new)

    later_above : (c : Change K V) → Contains more c → cmp k c.0 ≡ Less
    later_above c has =
        let facts = between.each c has in
        by_order (cmp k c.0)
        (λ h. h)
        (λ h. absurd (later_other c has (sym (order.exact k c.0 h))))
        (λ h.
        let before : cmp c.0 k ≡ Less = order.total.antisymm c.0 k ∙ ap ordering_reverse h in
        let old : c.1 ≡ None = sym facts.0 ∙ below_at cmp order c.0 xs (below_before cmp order c.0 k xs before below_xs) in
        let new : c.2 ≡ None = sym facts.1 ∙ below_at cmp order c.0 ys (below_before cmp order c.0 k ys before below_ys) in
        absurd (facts.2 (old ∙ sym new)))

    later_each : (c : Change K V) → Contains more c → (at cmp c.0 (with_first k a xs) ≡ c.1) × (at cmp c.0 (with_first k b ys) ≡ c.2) × (c.1 ≢ c.2)
    later_each c has =
        let facts = between.each c has in
        let other = later_other c has in
        (at_later c.0 k a xs below_xs other ∙ facts.0, at_later c.0 k b ys below_ys other ∙ facts.1, facts.2)

    rest_same : (j : K) → j ≢ k → (Contains (map (λ (c : Change K V). c.0) more) j → ⊥) → at cmp j (with_first k a xs) ≡ at cmp j (with_first k b ys)
    rest_same j other absent = at_later j k a xs below_xs other ∙ between.rest.same j absent ∙ sym (at_later j k b ys below_ys other)

    below_more : (cs : List (Change K V)) → ((c : Change K V) → Contains cs c → cmp k c.0 ≡ Less) → IsBelow cmp k (by_key cs)
    below_more [] above = tt
    below_more (c ∷ cs) above = above c (contains_first c cs)

    -- the rows under the key are the same, or they differ
    kept : a ≡ b → AreChangesBetween cmp more (with_first k a xs) (with_first k b ys)
    kept is = record {
      ascending = between.ascending;
      each = later_each;
      rest = record {
        same = λ j absent. elim (decide cmp order j k) [
          | inl e ↦ subst (λ (x : K). at cmp x (with_first k a xs) ≡ at cmp x (with_first k b ys)) (sym e) (at_first k a xs below_xs ∙ is ∙ sym (at_first k b ys below_ys))
          | inr other ↦ rest_same j other absent
        ];
      };
    }

    listed_each : a ≢ b → (c : Change K V) → Contains ((k, a, b) ∷ more) c → (at cmp c.0 (with_first k a xs) ≡ c.1) × (at cmp c.0 (with_first k b ys) ≡ c.2) × (c.1 ≢ c.2)
    listed_each differs c has =
        let P : Change K V → Type 0 = λ x. (at cmp x.0 (with_first k a xs) ≡ x.1) × (at cmp x.0 (with_first k b ys) ≡ x.2) × (x.1 ≢ x.2) in
        elim (contains_cases (k, a, b) more c has) [
          | inl e ↦ subst P (sym e) (at_first k a xs below_xs, at_first k b ys below_ys, differs)
          | inr later ↦ later_each c later
        ]

    listed : a ≢ b → AreChangesBetween cmp ((k, a, b) ∷ more) (with_first k a xs) (with_first k b ys)
    listed differs =
        let keys : List K = map (λ (c : Change K V). c.0) more in
        record {
          ascending = (below_more more later_above, between.ascending);
          each = listed_each differs;
          rest = record {
            same = λ j absent. rest_same j (λ e. absent (subst (λ (x : K). Contains (k ∷ keys) x) (sym e) (contains_first k keys))) (λ has. absent (contains_later k keys j has));
          };
        }

  -- the changes with the least key, from the changes of what is left
  with_least : (same : V → V → Bool) → IsTest same → (old new old_left new_left : List (K × V)) (c : Change K V) (more : List (Change K V)) → IsLeast cmp old new old_left new_left c → AreChangesBetween cmp more old_left new_left → AreChangesBetween cmp (change_of same c ++ more) old new
  with_least same test old new old_left new_left c more least between =
      let xs : List (K × V) = with_first c.0 c.1 old_left in
      let ys : List (K × V) = with_first c.0 c.2 new_left in
      let made : AreChangesBetween cmp (change_of same c ++ more) xs ys = elim (cases_Bool (option_eq same c.1 c.2)) [
        | inl e ↦ rw e (kept c.0 c.1 c.2 old_left new_left least.below_old least.below_new more between (rows_same same test c.1 c.2 e))
        | inr e ↦ rw e (listed c.0 c.1 c.2 old_left new_left least.below_old least.below_new more between (rows_differ same test c.1 c.2 e))
      ] in
      subst (λ (l : List (K × V)). AreChangesBetween cmp (change_of same c ++ more) l new) (sym least.old_is)
      (subst (λ (l : List (K × V)). AreChangesBetween cmp (change_of same c ++ more) xs l) (sym least.new_is) made)

  from_start : (old new : List (K × V)) → Ascends cmp old → Ascends cmp new → IsComparing cmp old new old new []
  from_start old new asc bsc = record { old_ascends = asc; new_ascends = bsc; makes = λ more between. between }

  pub begun : (old new old_left new_left : List (K × V)) (found : List (Change K V)) → old_left ≡ old → new_left ≡ new → found ≡ [] → Ascends cmp old → Ascends cmp new → IsComparing cmp old new old_left new_left found
  begun old new old_left new_left found is js none asc bsc =
      subst (λ (l : List (K × V)). IsComparing cmp old new l new_left found) (sym is)
      (subst (λ (l : List (K × V)). IsComparing cmp old new old l found) (sym js)
      (subst (λ (l : List (Change K V)). IsComparing cmp old new old new l) (sym none) (from_start old new asc bsc)))

  ascends_left : (k : K) (a : Option V) (left rows : List (K × V)) → rows ≡ with_first k a left → Ascends cmp rows → Ascends cmp left
  ascends_left k None left rows is asc = subst (λ (l : List (K × V)). Ascends cmp l) is asc
  ascends_left k (Some v) left rows is asc = (subst (λ (l : List (K × V)). Ascends cmp l) is asc).1

  compared_one : (same : V → V → Bool) → IsTest same → (old new old_now new_now old_left new_left : List (K × V)) (found : List (Change K V)) (c : Change K V) → IsComparing cmp old new old_now new_now found → IsLeast cmp old_now new_now old_left new_left c → IsComparing cmp old new old_left new_left (found ++ change_of same c)
  compared_one same test old new old_now new_now old_left new_left found c comparing least = record {
    old_ascends = ascends_left c.0 c.1 old_left old_now least.old_is comparing.old_ascends;
    new_ascends = ascends_left c.0 c.2 new_left new_now least.new_is comparing.new_ascends;
    makes = λ more between. subst (λ (l : List (Change K V)). AreChangesBetween cmp l old new) (sym (append_assoc found (change_of same c) more))
        (comparing.makes (change_of same c ++ more) (with_least same test old_now new_now old_left new_left c more least between));
  }

  pub compared : (same : V → V → Bool) → IsTest same → (old new old_now new_now old_left new_left : List (K × V)) (found next : List (Change K V)) (c : Change K V) → IsComparing cmp old new old_now new_now found → IsLeast cmp old_now new_now old_left new_left c → next ≡ found ++ change_of same c → IsComparing cmp old new old_left new_left next
  compared same test old new old_now new_now old_left new_left found next c comparing least is = subst (λ (l : List (Change K V)). IsComparing cmp old new old_left new_left l) (sym is) (compared_one same test old new old_now new_now old_left new_left found c comparing least)

  pub ended : (old new old_left new_left : List (K × V)) (found : List (Change K V)) → IsComparing cmp old new old_left new_left found → (old_left ≡ []) × (new_left ≡ []) → AreChangesBetween cmp found old new
  ended old new old_left new_left found comparing empty =
      let none : AreChangesBetween cmp [] old_left new_left = subst (λ (l : List (K × V)). AreChangesBetween cmp [] l new_left) (sym empty.0) (subst (λ (l : List (K × V)). AreChangesBetween cmp [] [] l) (sym empty.1) (nothing_differs cmp)) in
      subst (λ (l : List (Change K V)). AreChangesBetween cmp l old new) (append-nil found) (comparing.makes [] none)

  -- a change of the least key goes last
  pub goes_last : (same : V → V → Bool) → IsTest same → (old new old_now new_now old_left new_left : List (K × V)) (found : List (Change K V)) (c : Change K V) → IsComparing cmp old new old_now new_now found → IsLeast cmp old_now new_now old_left new_left c → option_eq same c.1 c.2 ≡ false → IsAscending cmp (found ++ c ∷ [])
  goes_last same test old new old_now new_now old_left new_left found c comparing least differs =
      let more : List (Change K V) = plain_changes cmp same old_left new_left in
      let between : AreChangesBetween cmp (change_of same c ++ more) old_now new_now = with_least same test old_now new_now old_left new_left c more least (plain_made cmp order same test old_left new_left) in
      let one : change_of same c ≡ c ∷ [] = rw differs refl in
      let listed : AreChangesBetween cmp (c ∷ more) old_now new_now = subst (λ (l : List (Change K V)). AreChangesBetween cmp (l ++ more) old_now new_now) one between in
      let whole = comparing.makes (c ∷ more) listed in
      ascends_front cmp order (by_key (found ++ c ∷ [])) (by_key more) (by_key (found ++ c ∷ more)) (sym (parts found c more)) whole.ascending
    where
      parts : (fs : List (Change K V)) (c : Change K V) (more : List (Change K V)) → by_key (fs ++ c ∷ more) ≡ by_key (fs ++ c ∷ []) ++ by_key more
      parts [] c more = refl
      parts (f ∷ fs) c more = ap (λ (l : List (K × (Option V × Option V))). (f.0, (f.1, f.2)) ∷ l) (parts fs c more)
