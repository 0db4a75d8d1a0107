-- A test of whether rows are closed.
use Rattle.std.proofs.Common.{◌≡◌, ◌&&◌, zero, suc, Bool, true, false, List, [], ◌∷◌, All, None, Some, is_some, refl, sym, ap, ◌∙◌, subst, arith}
use Rattle.std.specs.declared.cmp.Ordering.{Ordering}
use Rattle.keyed.specs.Keyed.{IsKeyOrder, at}
use Rattle.keyed.specs.KeyedLaws.{by_order}
use Rattle.net_types.specs.KeyOrder.{group_cmp, group_order, host_cmp, route_cmp, route_order}
use Rattle.net_types.specs.Rows.{Rows}
use Rattle.net_types.specs.declared.table.HopTarget.{HopTarget}
use Rattle.net_types.specs.declared.table.HopTarget.TheVariants.{Host, Group, ToCpu, Discard}
use Rattle.net_types.specs.declared.table.HostKey.{HostKey}
use Rattle.net_types.specs.Closed.{IsClosed, IsTargetKnown}

abbrev every : {A : Type 0} → (A → Bool) → List A → Bool
every test [] = true
every test (x ∷ xs) = test x && every test xs

first_holds : (a b : Bool) → (a && b) ≡ true → a ≡ true
first_holds true b h = refl
first_holds false b h = absurd (cc)

second_holds : (a b : Bool) → (a && b) ≡ true → b ≡ true
second_holds true b h = h
second_holds false b h = absurd (cc)

every_all : {A : Type 0} (test : A → Bool) (xs : List A) → every test xs ≡ true → All (λ x. test x ≡ true) xs
every_all test [] h k d lt = absurd (omega arith)
every_all test (x ∷ xs) h zero d lt = first_holds (test x) (every test xs) h
every_all test (x ∷ xs) h (suc k) d lt = every_all test xs (second_holds (test x) (every test xs) h) k d (omega arith)

every_at : {K V : Type 0} (cmp : K → K → Ordering) → IsKeyOrder cmp → (test : K × V → Bool) (l : List (K × V)) → every test l ≡ true → (k : K) (v : V) → at cmp k l ≡ Some v → test (k, v) ≡ true
every_at cmp order test [] h k v is = absurd (cc)
every_at {K} {V} cmp order test (e ∷ es) h k v is = by_order (cmp k e.0)
    (λ o. let no : None ≡ Some v = rw o at is in absurd (cc))
    (λ o. let here : Some e.1 ≡ Some v = rw o at is in
    let value : e.1 ≡ v = cc in
    let entry : e ≡ (k, v) = ap (λ (x : K). (x, e.1)) (sym (order.exact k e.0 o)) ∙ ap (λ (x : V). (k, x)) value in
    subst (λ (x : K × V). test x ≡ true) entry (first_holds (test e) (every test es) h))
    (λ o. let later : at cmp k es ≡ Some v = rw o at is in every_at cmp order test es (second_holds (test e) (every test es) h) k v later)

-- whether the hosts of a group are there, and what a route leads to
abbrev group_test : Rows → List HostKey × List Bool → Bool
group_test rows e = every (λ key. is_some (at host_cmp key rows.host)) e.0

abbrev target_test : Rows → HopTarget → Bool
target_test rows (Host key) = is_some (at host_cmp key rows.host)
target_test rows (Group keys) = is_some (at group_cmp keys rows.group)
target_test rows ToCpu = true
target_test rows Discard = true

abbrev pub closed_test : Rows → Bool
closed_test rows = every (group_test rows) rows.group && every (λ e. target_test rows e.1) rows.route

known : (rows : Rows) (target : HopTarget) → target_test rows target ≡ true → IsTargetKnown rows target
known rows (Host key) h = h
known rows (Group keys) h = h
known rows ToCpu h = tt
known rows Discard h = tt

pub closed : (rows : Rows) → closed_test rows ≡ true → IsClosed rows
closed rows h =
    let groups = first_holds (every (group_test rows) rows.group) (every (λ e. target_test rows e.1) rows.route) h in
    let routes = second_holds (every (group_test rows) rows.group) (every (λ e. target_test rows e.1) rows.route) h in
    record {
      group = λ keys marks there. every_all (λ key. is_some (at host_cmp key rows.host)) keys (every_at group_cmp group_order (group_test rows) rows.group groups keys marks there);
      route = record { each = λ k target there. known rows target (every_at route_cmp route_order (λ e. target_test rows e.1) rows.route routes k target there) };
    }
