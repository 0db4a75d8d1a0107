-- Interfaces, and then their addresses, are built again entry by entry.
use Rattle.std.proofs.Common.{◌≡◌, ◌++◌, ◌==◌, ◌&&◌, ◌||◌, ℕ, Bool, true, false, not, List, [], ◌∷◌, Option, Some, map, refl, sym, ap, ◌∙◌, subst, inl, inr}
use Rattle.std.specs.List.{list_any, flat_map, Contains, AllByRecursion}
use Rattle.std.specs.List.Sorted.{IsStrictlySortedBy}
use Rattle.std.specs.Option.{is_some, option_map}
use Rattle.std.specs.Ordering.{nat_cmp, eq_by_cmp, ordering_reverse}
use Rattle.std.specs.declared.cmp.Ordering.{Ordering}
use Rattle.std.specs.declared.cmp.Ordering.TheVariants.{Less, Greater}
use Rattle.std.proofs.lemmas.Bool.{or_from, and_left, and_right, not_from_true, cases_Bool}
use Rattle.std.proofs.lemmas.Bool.Decides.{Decides-eqb}
use Rattle.std.proofs.lemmas.List.{append_assoc}
use Rattle.std.proofs.lemmas.List.Folds.{list_any-append}
use Rattle.keyed.specs.Keyed.{at, with_values}
use Rattle.keyed.specs.KeyOrders.{nat_order}
use Rattle.keyed.specs.KeyedLaws.{at-with_values, with_values-put}
use Rattle.keyed.specs.Members.{contains_first, contains_later}
use Rattle.keyed.specs.Sets.{insert}
use Rattle.keyed.specs.Cases.{not_none}
use Rattle.keyed.specs.Every.{Every}
use Rattle.keyed.specs.EveryLaws.{any-none}
use Rattle.keyed.specs.FrontLaws.{IsAbove, above, put_past, change_mid, at_new, at_mid, at_entry, at_front, apart_front, ascends_front}
use Rattle.keyed.specs.HasLaws.{is_there}
use Rattle.keyed.specs.ListLaws.{find_none}
use Rattle.net_types.specs.Cidr.{Cidr}
use Rattle.net_types.specs.KeyOrder.{ip_cmp}
use Rattle.net_types.specs.Prefix.{overlaps, subnet_of}
use Rattle.switch_model.specs.declared.act.Act.TheVariants.{IntfAdd, AddrAdd}
use Rattle.switch_model.specs.declared.record.IntfRec.{IntfRec}
use Rattle.switch_model.specs.Addresses.{addr_cmp, addr_total, has_subnet, subnets}
use Rattle.switch_model.specs.Effect.{with_addr}
use Rattle.switch_model.specs.Facts.{addrs_of, overlaps_other, has_ip}
use Rattle.switch_model.specs.PlainState.{PlainState}
use Rattle.switch_model.specs.Sound.{addr_acts}
use Rattle.switch_laws.proofs.Builds.{Builds, builds_one, builds_as, each_builds, each_one}
use Rattle.switch_laws.proofs.KeptIntfs.{equal_test, other_test}
use Rattle.switch_laws.proofs.Stages.{with_addrs, bare, with_front_intfs}
use Rattle.switch_laws.proofs.Subnets.{false_subnet, overlaps_as, overlaps-each}
use Rattle.switch_laws.specs.Linked.{IsLinked}

any-with_values : {K V W : Type 0} (g : V → W) (p : K × W → Bool) (l : List (K × V)) → list_any p (with_values g l) ≡ list_any (λ e. p (e.0, g e.1)) l
any-with_values g p [] = refl
any-with_values g p (e ∷ es) = ap (λ (b : Bool). p (e.0, g e.1) || b) (any-with_values g p es)

pub intfs_built : (m : PlainState) → IsLinked m → Builds (with_front_intfs m []) (map (λ e. IntfAdd e.0 e.1.vlan e.1.vrf e.1.mac) m.intfs) (with_front_intfs m (bare m.intfs))
intfs_built m is = each_one m.intfs (λ e. IntfAdd e.0 e.1.vlan e.1.vrf e.1.mac) (λ f b. with_front_intfs m (bare f)) step [] m.intfs refl
  where
    step : (f : List (ℕ × IntfRec)) (e : ℕ × IntfRec) (b : List (ℕ × IntfRec)) → f ++ (e ∷ b) ≡ m.intfs → Builds (with_front_intfs m (bare f)) (IntfAdd e.0 e.1.vlan e.1.vrf e.1.mac ∷ []) (with_front_intfs m (bare (f ++ (e ∷ []))))
    step f e b whole =
        let up = above nat_cmp nat_order f e b m.intfs whole is.in_order.intfs in
        let here = at_entry nat_cmp nat_order f e b m.intfs whole is.in_order.intfs in
        let own = is.intfs.every e.0 e.1 here in
        let in_vlan : ℕ × IntfRec → Bool = λ x. x.1.vlan == e.1.vlan in
        let others : Every nat_cmp (λ q w. in_vlan (q, w) ≡ false) f = record {
          every = λ q w there.
              other_test w.vlan e.1.vlan (is.intfs_apart.two q e.0 w e.1 (apart_front nat_cmp nat_order e.0 f q w up there) (at_front nat_cmp nat_order f (e ∷ b) m.intfs q w whole there) here).vlans;
        } in
        let free : list_any in_vlan (bare f) ≡ false = any-with_values (with_addrs []) in_vlan f ∙ any-none nat_cmp nat_order in_vlan f (ascends_front nat_cmp nat_order f (e ∷ b) m.intfs whole is.in_order.intfs) others in
        let new : is_some (at nat_cmp e.0 (bare f)) ≡ false = ap is_some (at-with_values nat_cmp nat_order (with_addrs []) e.0 f ∙ ap (option_map (with_addrs [])) (at_new nat_cmp nat_order e.0 f up)) in
        builds_as _ _ _ _ (ap (with_front_intfs m) (sym (with_values-put nat_cmp nat_order (with_addrs []) e.0 e.1 f) ∙ ap bare (put_past nat_cmp nat_order e.0 e.1 f up)))
        (builds_one (with_front_intfs m (bare f)) (IntfAdd e.0 e.1.vlan e.1.vrf e.1.mac)
        (is_there _ own.0, (new, (find_none (λ (x : ℕ × IntfRec). x.0) in_vlan (bare f) ∙ free, (own.1, tt)))))

-- an address after those before it
module _ {K : Type 0} (cmp : K → K → Ordering) where
  mid_all : (k : K) (f : List K) (x : K) (b : List K) → AllByRecursion (λ y. cmp k y ≡ Less) (f ++ (x ∷ b)) → cmp k x ≡ Less
  mid_all k [] x b all = all.0
  mid_all k (y ∷ ys) x b all = mid_all k ys x b all.1

  front_below : (f : List K) (x : K) (b : List K) → IsStrictlySortedBy cmp (f ++ (x ∷ b)) → AllByRecursion (λ y. cmp y x ≡ Less) f
  unfolding IsStrictlySortedBy
  front_below [] x b asc = tt
  front_below (y ∷ ys) x b asc = (mid_all y ys x b asc.0, front_below ys x b asc.1)

insert_past : (f : List Cidr) (x : Cidr) → AllByRecursion (λ y. addr_cmp y x ≡ Less) f → insert addr_cmp x f ≡ f ++ (x ∷ [])
insert_past [] x all = refl
insert_past (y ∷ ys) x all = let after : addr_cmp x y ≡ Greater = addr_total.antisymm x y ∙ ap ordering_reverse all.0 in rw after (ap (λ r. y ∷ r) (insert_past ys x all.1))

new_ip : (f : List Cidr) (x : Cidr) → AllByRecursion (λ y. addr_cmp y x ≡ Less) f → has_ip f x ≡ false
new_ip [] x all = refl
new_ip (y ∷ ys) x all = or_from (eq_by_cmp ip_cmp y.ip x.ip) (has_ip ys x) (rw all.0 refl) (new_ip ys x all.1)

contains_mid : (f : List Cidr) (x : Cidr) (b whole : List Cidr) → f ++ (x ∷ b) ≡ whole → Contains whole x
contains_mid f x b whole is = subst (λ (l : List Cidr). Contains l x) is (within f)
  where
    within : (f : List Cidr) → Contains (f ++ (x ∷ b)) x
    within [] = contains_first x b
    within (y ∷ ys) = contains_later y (ys ++ (x ∷ b)) x (within ys)

-- an interface with no address overlaps nothing
bare_none : (intf vrf : ℕ) (prefix : Cidr) (l : List (ℕ × IntfRec)) → list_any (overlaps_as intf vrf prefix) (bare l) ≡ false
bare_none intf vrf prefix [] = refl
bare_none intf vrf prefix (e ∷ es) = or_from (overlaps_as intf vrf prefix (e.0, with_addrs [] e.1)) (list_any (overlaps_as intf vrf prefix) (bare es)) (and_right (not (e.0 == intf) && (e.1.vrf == vrf)) false refl) (bare_none intf vrf prefix es)

module _ (m : PlainState) (is : IsLinked m) (f : List (ℕ × IntfRec)) (e : ℕ × IntfRec) (b : List (ℕ × IntfRec)) (whole : f ++ (e ∷ b) ≡ m.intfs) where
  -- the interfaces before this one have their addresses, this one some of them, and those after it none
  abbrev stage : List Cidr → List (ℕ × IntfRec)
  stage done = f ++ ((e.0, with_addrs done e.1) ∷ bare b)

  up : IsAbove nat_cmp e.0 f
  up = above nat_cmp nat_order f e b m.intfs whole is.in_order.intfs

  here : at nat_cmp e.0 m.intfs ≡ Some e.1
  here = at_entry nat_cmp nat_order f e b m.intfs whole is.in_order.intfs

  -- those before it don't overlap a subnet of its own
  front_none : (x : Cidr) → Contains e.1.addrs x → has_subnet x ≡ true → list_any (overlaps_as e.0 e.1.vrf (subnet_of x)) f ≡ false
  front_none x own one = any-none nat_cmp nat_order (overlaps_as e.0 e.1.vrf (subnet_of x)) f (ascends_front nat_cmp nat_order f (e ∷ b) m.intfs whole is.in_order.intfs) (record { every = λ q w there. each q w there })
    where
      each : (q : ℕ) (w : IntfRec) → at nat_cmp q f ≡ Some w → overlaps_as e.0 e.1.vrf (subnet_of x) (q, w) ≡ false
      each q w there = elim (cases_Bool (w.vrf == e.1.vrf)) [
        | inl same ↦
            let vrfs : w.vrf ≡ e.1.vrf = (Decides-eqb w.vrf e.1.vrf).0 same in
            let apart = is.intfs_apart.two e.0 q e.1 w (λ is_same. apart_front nat_cmp nat_order e.0 f q w up there (sym is_same)) here (at_front nat_cmp nat_order f (e ∷ b) m.intfs q w whole there) in
            and_right (not (q == e.0) && (w.vrf == e.1.vrf)) (list_any (overlaps (subnet_of x)) (subnets w.addrs))
            (false_subnet (overlaps (subnet_of x)) w.addrs (λ y in_w two. apart.subnets (sym vrfs) x y own in_w one two))
        | inr other ↦ and_left (not (q == e.0) && (w.vrf == e.1.vrf)) (list_any (overlaps (subnet_of x)) (subnets w.addrs)) (and_right (not (q == e.0)) (w.vrf == e.1.vrf) other)
      ]

  none_overlap : (x : Cidr) (done : List Cidr) → Contains e.1.addrs x → has_subnet x ≡ true → list_any (overlaps_as e.0 e.1.vrf (subnet_of x)) (stage done) ≡ false
  none_overlap x done own one =
      let test : ℕ × IntfRec → Bool = overlaps_as e.0 e.1.vrf (subnet_of x) in
      let this : test (e.0, with_addrs done e.1) ≡ false = and_left (not (e.0 == e.0) && (e.1.vrf == e.1.vrf)) (list_any (overlaps (subnet_of x)) (subnets done)) (and_left (not (e.0 == e.0)) (e.1.vrf == e.1.vrf) (not_from_true (e.0 == e.0) (equal_test e.0 e.0 refl))) in
      list_any-append test f ((e.0, with_addrs done e.1) ∷ bare b) ∙ or_from (list_any test f) (list_any test ((e.0, with_addrs done e.1) ∷ bare b)) (front_none x own one) (or_from (test (e.0, with_addrs done e.1)) (list_any test (bare b)) this (bare_none e.0 e.1.vrf (subnet_of x) b))

  found_here : (done : List Cidr) → at nat_cmp e.0 (stage done) ≡ Some (with_addrs done e.1)
  found_here done = at_mid nat_cmp nat_order e.0 (with_addrs done e.1) f (bare b) up

  addr_step : (done : List Cidr) (x : Cidr) (todo : List Cidr) → done ++ (x ∷ todo) ≡ e.1.addrs → Builds (with_front_intfs m (stage done)) (AddrAdd e.0 x ∷ []) (with_front_intfs m (stage (done ++ (x ∷ []))))
  addr_step done x todo parts =
      let sorted : IsStrictlySortedBy addr_cmp (done ++ (x ∷ todo)) = subst (λ (l : List Cidr). IsStrictlySortedBy addr_cmp l) (sym parts) (is.intfs.every e.0 e.1 here).2 in
      let below = front_below addr_cmp done x todo sorted in
      let own = contains_mid done x todo e.1.addrs parts in
      let s : PlainState = with_front_intfs m (stage done) in
      let fresh : has_ip (addrs_of (at nat_cmp e.0 (stage done))) x ≡ false = ap (λ (o : Option IntfRec). has_ip (addrs_of o) x) (found_here done) ∙ new_ip done x below in
      let clear : (has_subnet x && overlaps_other s e.0 (subnet_of x)) ≡ false = elim (cases_Bool (has_subnet x)) [
        | inl one ↦ and_right (has_subnet x) (overlaps_other s e.0 (subnet_of x)) (overlaps-each s e.0 (subnet_of x) (with_addrs done e.1) (found_here done) ∙ none_overlap x done own one)
        | inr none ↦ and_left (has_subnet x) (overlaps_other s e.0 (subnet_of x)) none
      ] in
      builds_as _ _ _ _ (ap (with_front_intfs m) (change_mid nat_cmp nat_order e.0 (with_addrs done e.1) (with_addr x) f (bare b) up ∙ ap (λ (l : List Cidr). stage l) (insert_past done x below)))
      (builds_one s (AddrAdd e.0 x) (not_none _ (with_addrs done e.1) (found_here done), (fresh, (clear, tt))))

  intf_step : Builds (with_front_intfs m (stage [])) (addr_acts e) (with_front_intfs m (stage e.1.addrs))
  intf_step = each_one e.1.addrs (AddrAdd e.0) (λ done todo. with_front_intfs m (stage done)) addr_step [] e.1.addrs refl

  pub addrs_step : Builds (with_front_intfs m (f ++ bare (e ∷ b))) (addr_acts e) (with_front_intfs m ((f ++ (e ∷ [])) ++ bare b))
  addrs_step = builds_as _ _ _ _ (ap (with_front_intfs m) (sym (append_assoc f (e ∷ []) (bare b)))) intf_step

pub addrs_built : (m : PlainState) → IsLinked m → Builds (with_front_intfs m (bare m.intfs)) (flat_map addr_acts m.intfs) (with_front_intfs m (m.intfs ++ []))
addrs_built m is = each_builds m.intfs addr_acts (λ f b. with_front_intfs m (f ++ bare b)) (λ f e b whole. addrs_step m is f e b whole) [] m.intfs refl
