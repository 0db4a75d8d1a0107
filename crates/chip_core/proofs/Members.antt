-- Members of groups: that none is named twice, and that their hosts are there.
use Rattle.std.proofs.Common.{◌≡◌, ◌++◌, ℕ, ◌+◌, ◌-◌, ◌≤◌, ◌<◌, ◌==◌, Bool, true, false, nat_eq, IsTrue, is_some, All, List, [], ◌∷◌, length, get_or, take, drop, refl, sym, ap, ◌∙◌, subst, add-one, length-drop, arith, inl, inr, ◌⊎◌}
use Rattle.std.specs.List.{AllByRecursion, IsDistinct, list_any}
use Rattle.std.specs.Ordering.{nat_cmp}
use Rattle.std.proofs.Math.Seq.{drop-cons}
use Rattle.std.proofs.lemmas.List.{drop_all, get_or-take, get_or_default, length-take, take_all, take_more}
use Rattle.keyed.specs.Keyed.{at}
use Rattle.net_types.specs.declared.group.Member.{Member}
use Rattle.net_types.specs.declared.table.RouteRow.{RouteRow}
use Rattle.net_types.specs.declared.table.RouteRow.TheVariants.{Host}
use Rattle.chip_core.specs.References.{IsRouteHeld}
use Rattle.chip_core.specs.Sim.{tables_of, targets}
use Rattle.chip_core.specs.Slots.{Groups, host_at, host_rows, hosts_of}
use Rattle.chip_core.specs.SlotsLaws.{Entries, host_at-rows}

by_bool : {G : Type 0} (b : Bool) → (b ≡ true → G) → (b ≡ false → G) → G
by_bool true f g = f refl
by_bool false f g = g refl

none_named : (h : ℕ) (ms : List Member) → list_any (λ m. h == m.host) ms ≡ false → AllByRecursion (λ y. nat_eq h y ≡ false) (hosts_of ms)
none_named h [] none = tt
none_named h (m ∷ ms) none = by_bool (nat_eq h m.host)
    (λ t. let no : true ≡ false = rw t at none in absurd (cc))
    (λ f. let later : list_any (λ m. h == m.host) ms ≡ false = rw f at none in (f, none_named h ms later))

not_named : (h : ℕ) (ms : List Member) → list_any (λ m. h == m.host) ms ≡ true → AllByRecursion (λ y. nat_eq h y ≡ false) (hosts_of ms) → ⊥
not_named h [] some all = absurd (cc)
not_named h (m ∷ ms) some all = let later : list_any (λ m. h == m.host) ms ≡ true = rw all.0 at some in not_named h ms later all.1

distinct_cons : (m : Member) (rest : List Member) → list_any (λ x. m.host == x.host) rest ≡ false → IsDistinct nat_eq (hosts_of rest) → IsDistinct nat_eq (hosts_of (m ∷ rest))
unfolding IsDistinct
distinct_cons m rest none distinct = (none_named m.host rest none, distinct)

distinct_rest : (m : Member) (rest : List Member) → IsDistinct nat_eq (hosts_of (m ∷ rest)) → IsDistinct nat_eq (hosts_of rest)
unfolding IsDistinct
distinct_rest m rest distinct = distinct.1

named_twice : (m : Member) (rest : List Member) → list_any (λ x. m.host == x.host) rest ≡ true → IsDistinct nat_eq (hosts_of (m ∷ rest)) → ⊥
unfolding IsDistinct
named_twice m rest some distinct = not_named m.host rest some distinct.0

pub none_distinct : (ms : List Member) (place : ℕ) → length ms ≤ place → IsDistinct nat_eq (hosts_of (drop place ms))
unfolding IsDistinct
none_distinct ms place past = rw (drop_all place ms past) tt

-- what an element that is read past the end would be
abbrev unused : Member
unused = record { host = 0; live = false }

module _ (ms : List Member) (place : ℕ) (found : Bool) (within : place < length ms) (read : found ≡ list_any (λ m. (get_or ms place unused).host == m.host) (take (length ms - (place + 1)) (drop (place + 1) ms))) where
  opened : drop place ms ≡ get_or ms place unused ∷ drop (place + 1) ms
  opened = drop-cons ms place unused within ∙ ap (λ (n : ℕ). get_or ms place unused ∷ drop n ms) (sym (add-one place))

  is : found ≡ list_any (λ m. (get_or ms place unused).host == m.host) (drop (place + 1) ms)
  is = read ∙ ap (λ (l : List Member). list_any (λ m. (get_or ms place unused).host == m.host) l) (take_all (length ms - (place + 1)) (drop (place + 1) ms) (omega (arith, length-drop (place + 1) ms)))

  pub twice_at : found ≡ true → IsDistinct nat_eq (hosts_of (drop place ms)) → ⊥
  twice_at named distinct = named_twice (get_or ms place unused) (drop (place + 1) ms) (sym is ∙ named) (subst (λ (l : List Member). IsDistinct nat_eq (hosts_of l)) opened distinct)

  pub once_at : found ≡ false → IsDistinct nat_eq (hosts_of (drop (place + 1) ms)) → IsDistinct nat_eq (hosts_of (drop place ms))
  once_at unnamed distinct = subst (λ (l : List Member). IsDistinct nat_eq (hosts_of l)) (sym opened) (distinct_cons (get_or ms place unused) (drop (place + 1) ms) (sym is ∙ unnamed) distinct)

  pub once_after : IsDistinct nat_eq (hosts_of (drop place ms)) → IsDistinct nat_eq (hosts_of (drop (place + 1) ms))
  once_after distinct = distinct_rest (get_or ms place unused) (drop (place + 1) ms) (subst (λ (l : List Member). IsDistinct nat_eq (hosts_of l)) opened distinct)

-- a route to a host is held where the host is there
pub route_host : (hosts : Entries) (groups : Groups) (row : RouteRow) (slot : ℕ) (there : Bool) → row ≡ Host slot → there ≡ is_some (at nat_cmp slot hosts) → (IsTrue there → IsRouteHeld (tables_of (targets hosts groups)) row) × (IsRouteHeld (tables_of (targets hosts groups)) row → IsTrue there)
route_host hosts groups row slot there is found =
    let same : there ≡ is_some (host_at slot (host_rows hosts)) = found ∙ sym (ap is_some (host_at-rows slot hosts)) in
    let held : (IsTrue there → IsRouteHeld (tables_of (targets hosts groups)) (Host slot)) × (IsRouteHeld (tables_of (targets hosts groups)) (Host slot) → IsTrue there) = ((λ h. sym same ∙ h), (λ h. same ∙ h)) in
    subst (λ (r : RouteRow). (IsTrue there → IsRouteHeld (tables_of (targets hosts groups)) r) × (IsRouteHeld (tables_of (targets hosts groups)) r → IsTrue there)) (sym is) held

either_side : (k n : ℕ) → k < n + 1 → (k < n) ⊎ (k ≡ n)
either_side k n lt = grind arith

-- one more item of a list that is gone through
pub all_more : {X : Type 0} (Is : X → Type 0) (l : List X) (i : ℕ) (e : X) → i < length l → e ≡ get_or l i e → Is e → All Is (take i l) → All Is (take (i + 1) l)
all_more Is l i e within is here all k d lt = elim (either_side k i (omega (arith, length-take (i + 1) l))) [
  | inl before ↦ subst Is (get_or-take i l k d before ∙ sym (get_or-take (i + 1) l k d (omega arith))) (all k d (omega (arith, length-take i l)))
  | inr last ↦ subst Is (is ∙ get_or_default l i e d within ∙ ap (λ (n : ℕ). get_or l n d) (sym last) ∙ sym (get_or-take (i + 1) l k d (omega arith))) here
]

pub next_taken : {X : Type 0} (now l : List X) (i : ℕ) (e : X) → i < length l → e ≡ get_or l i e → now ≡ take i l → now ++ e ∷ [] ≡ take (i + 1) l
next_taken now l i e within is so_far = ap (λ (r : List _). r ++ e ∷ []) so_far ∙ ap (λ (x : _). take i l ++ x ∷ []) is ∙ sym (take_more l i e within)

-- what is said of all items holds of one that is read
pub all_at : {X : Type 0} (Is : X → Type 0) (l : List X) (i : ℕ) (e : X) → i < length l → e ≡ get_or l i e → All Is l → Is e
all_at Is l i e within is all = subst Is (sym is) (all i e within)
