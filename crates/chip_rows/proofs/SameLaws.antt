-- The derived tests of keys and rows are those that the specification names, and they tell them apart.
use Rattle.std.proofs.Common.{◌≡◌, ◌==◌, ◌&&◌, ℕ, Bool, true, false, List, refl, sym, ap, ◌∙◌}
use Rattle.std.specs.Bool.{beq, Decides}
use Rattle.std.specs.Cmp.{Equal-is, booleans_Decides}
use Rattle.std.specs.Cmp.Lexicographic.{lists_ties, pointwise}
use Rattle.std.specs.Ordering.{eq_by_cmp, is_eq}
use Rattle.std.specs.declared.cmp.Ordering.{Ordering}
use Rattle.std.proofs.lemmas.Bool.{false≢true}
use Rattle.std.proofs.lemmas.Bool.Decides.{Decides-and, Decides-eqb}
use Rattle.std.proofs.lemmas.Slice.Eq.{slice_eq-Decides}
use Rattle.keyed.specs.Keyed.{IsKeyOrder}
use Rattle.keyed.specs.KeyedLaws.{same as same_key}
use Rattle.net_types.specs.Derived.{host-derived, route-derived}
use Rattle.net_types.specs.Differ.{same_act, same_host, same_l2, same_target}
use Rattle.net_types.specs.KeyOrder.{group_cmp, group_order, host_cmp, host_order, l2_cmp, l2_order, route_cmp, route_order}
use Rattle.net_types.specs.contracts.table.HopTargetPartialEq.TheImpl as target_eq
use Rattle.net_types.specs.contracts.table.HostKeyOrd.TheImpl.Laws as host_laws
use Rattle.net_types.specs.contracts.table.HostKeyPartialEq.TheImpl as host_key_eq
use Rattle.net_types.specs.contracts.table.HostRowPartialEq.TheImpl as host_eq
use Rattle.net_types.specs.contracts.table.L2KeyOrd.TheImpl.Laws as l2_laws
use Rattle.net_types.specs.contracts.table.L2KeyPartialEq.TheImpl as l2_key_eq
use Rattle.net_types.specs.contracts.table.L2RowPartialEq.TheImpl as l2_eq
use Rattle.net_types.specs.contracts.table.RouteKeyOrd.TheImpl.Laws as route_laws
use Rattle.net_types.specs.contracts.table.RouteKeyPartialEq.TheImpl as route_key_eq
use Rattle.net_types.specs.declared.table.HopTarget.{HopTarget}
use Rattle.net_types.specs.declared.table.HopTarget.TheVariants.{Host, Group, ToCpu, Discard}
use Rattle.net_types.specs.declared.table.HostAct.{HostAct}
use Rattle.net_types.specs.declared.table.HostAct.TheVariants.{Forward, Trap}
use Rattle.net_types.specs.declared.table.HostKey.{HostKey}
use Rattle.net_types.specs.declared.table.HostRow.{HostRow}
use Rattle.net_types.specs.declared.table.L2Key.{L2Key}
use Rattle.net_types.specs.declared.table.L2Row.{L2Row}
use Rattle.net_types.specs.declared.table.RouteKey.{RouteKey}
use Rattle.chip_rows.specs.Difference.{same_entries}

-- a list of entries is tested as its keys and rows are
pub tested_as : {K V : Type 0} (keys other_keys : K → K → Bool) (rows other_rows : V → V → Bool) (xs ys : List (K × V)) → ((x y : K) → keys x y ≡ other_keys x y) → ((x y : V) → rows x y ≡ other_rows x y) →
    pointwise (λ (x y : K × V). keys x.0 y.0 && rows x.1 y.1) xs ys ≡ pointwise (λ (x y : K × V). other_keys x.0 y.0 && other_rows x.1 y.1) xs ys
tested_as {K} {V} keys other_keys rows other_rows xs ys key_same row_same =
    let one : (x y : K × V) → (keys x.0 y.0 && rows x.1 y.1) ≡ (other_keys x.0 y.0 && other_rows x.1 y.1) = λ x y. ap (λ (b : Bool). b && rows x.1 y.1) (key_same x.0 y.0) ∙ ap (λ (b : Bool). other_keys x.0 y.0 && b) (row_same x.1 y.1) in
    λ i. pointwise (λ (x y : K × V). one x y i) xs ys

-- the derived tests
pub l2_key_same : (a b : L2Key) → (l2_key_eq.eq-value).it a b ≡ eq_by_cmp l2_cmp a b
l2_key_same a b = l2_laws.lawful.matches_eq a b

pub host_key_same : (a b : HostKey) → (host_key_eq.eq-value).it a b ≡ eq_by_cmp host_cmp a b
host_key_same a b = host_laws.lawful.matches_eq a b ∙ ap (λ (c : HostKey → HostKey → Ordering). eq_by_cmp c a b) host-derived

pub hosts_same : (xs ys : List HostKey) → pointwise (host_key_eq.eq-value).it xs ys ≡ eq_by_cmp group_cmp xs ys
hosts_same = lists_ties host_cmp host_key_same

pub route_key_same : (a b : RouteKey) → (route_key_eq.eq-value).it a b ≡ eq_by_cmp route_cmp a b
route_key_same a b = route_laws.lawful.matches_eq a b ∙ ap (λ (c : RouteKey → RouteKey → Ordering). eq_by_cmp c a b) route-derived

by_up : (a b : L2Row) (u v : Bool) → a.up ≡ u → b.up ≡ v → (l2_eq.eq-value).it a b ≡ same_l2 a b
by_up a b true true x y = rw (x, y) refl
by_up a b true false x y = rw (x, y) refl
by_up a b false true x y = rw (x, y) refl
by_up a b false false x y = rw (x, y) refl

pub l2_same : (a b : L2Row) → (l2_eq.eq-value).it a b ≡ same_l2 a b
l2_same a b = by_up a b a.up b.up refl refl

by_act : (a b : HostRow) (u v : HostAct) → a.act ≡ u → b.act ≡ v → (host_eq.eq-value).it a b ≡ same_host a b
by_act a b (Forward m p true) (Forward m2 p2 true) x y = rw (x, y) refl
by_act a b (Forward m p true) (Forward m2 p2 false) x y = rw (x, y) refl
by_act a b (Forward m p true) Trap x y = rw (x, y) refl
by_act a b (Forward m p false) (Forward m2 p2 true) x y = rw (x, y) refl
by_act a b (Forward m p false) (Forward m2 p2 false) x y = rw (x, y) refl
by_act a b (Forward m p false) Trap x y = rw (x, y) refl
by_act a b Trap (Forward m2 p2 true) x y = rw (x, y) refl
by_act a b Trap (Forward m2 p2 false) x y = rw (x, y) refl
by_act a b Trap Trap x y = rw (x, y) refl

pub host_same : (a b : HostRow) → (host_eq.eq-value).it a b ≡ same_host a b
host_same a b = by_act a b a.act b.act refl refl

pub target_same : (a b : HopTarget) → (target_eq.eq-value).it a b ≡ same_target a b
target_same (Host a) (Host b) = host_key_same a b
target_same (Host a) (Group b) = refl
target_same (Host a) ToCpu = refl
target_same (Host a) Discard = refl
target_same (Group a) (Host b) = refl
target_same (Group a) (Group b) = hosts_same a b
target_same (Group a) ToCpu = refl
target_same (Group a) Discard = refl
target_same ToCpu (Host b) = refl
target_same ToCpu (Group b) = refl
target_same ToCpu ToCpu = refl
target_same ToCpu Discard = refl
target_same Discard (Host b) = refl
target_same Discard (Group b) = refl
target_same Discard ToCpu = refl
target_same Discard Discard = refl

-- what both parts of a value decide
both : {P Q : Type 0} (R : Type 0) (a b : Bool) → Decides a P → Decides b Q → (P → Q → R) → (R → P × Q) → Decides (a && b) R
both R a b of_a of_b there back =
    let parts = Decides-and a b of_a of_b in ((λ e. let p = parts.0 e in there p.0 p.1), (λ r. parts.1 (back r)))

l2_decides : (a b : L2Row) → Decides (same_l2 a b) (a ≡ b)
l2_decides a b = both (a ≡ b) (a.port == b.port) (beq a.up b.up) (Decides-eqb a.port b.port) (booleans_Decides a.up b.up)
    (λ port up. ap (λ (n : ℕ). record a { port = n }) port ∙ ap (λ (u : Bool). record b { up = u }) up)
    (λ same. (ap (λ (r : L2Row). r.port) same, ap (λ (r : L2Row). r.up) same))

act_exact : (a b : HostAct) → same_act a b ≡ true → a ≡ b
act_exact (Forward m p u) (Forward m2 p2 u2) e =
    let parts = (Decides-and (m == m2) ((p == p2) && beq u u2) (Decides-eqb m m2) (Decides-and (p == p2) (beq u u2) (Decides-eqb p p2) (booleans_Decides u u2))).0 e in
    ap (λ (x : ℕ). Forward x p u) parts.0 ∙ ap (λ (x : ℕ). Forward m2 x u) parts.1.0 ∙ ap (λ (x : Bool). Forward m2 p2 x) parts.1.1
act_exact (Forward m p u) Trap e = absurd (false≢true e)
act_exact Trap (Forward m p u) e = absurd (false≢true e)
act_exact Trap Trap e = refl

act_holds : (a : HostAct) → same_act a a ≡ true
act_holds (Forward m p u) = (Decides-and (m == m) ((p == p) && beq u u) (Decides-eqb m m) (Decides-and (p == p) (beq u u) (Decides-eqb p p) (booleans_Decides u u))).1 (refl, (refl, refl))
act_holds Trap = refl

host_decides : (a b : HostRow) → Decides (same_host a b) (a ≡ b)
host_decides a b = both (a ≡ b) (a.vrf == b.vrf) (same_act a.act b.act) (Decides-eqb a.vrf b.vrf) (act_exact a.act b.act, (λ same. ap (same_act a.act) (sym same) ∙ act_holds a.act))
    (λ vrf act. ap (λ (n : ℕ). record a { vrf = n }) vrf ∙ ap (λ (x : HostAct). record b { act = x }) act)
    (λ same. (ap (λ (r : HostRow). r.vrf) same, ap (λ (r : HostRow). r.act) same))

-- keys that are tied are one
key_decides : {K : Type 0} (cmp : K → K → Ordering) → IsKeyOrder cmp → (a b : K) → Decides (eq_by_cmp cmp a b) (a ≡ b)
key_decides cmp order a b = ((λ e. order.exact a b ((Equal-is (cmp a b)).0 e)), (λ is. ap (eq_by_cmp cmp a) (sym is) ∙ ap is_eq (same_key cmp order a)))

target_exact : (a b : HopTarget) → same_target a b ≡ true → a ≡ b
target_exact (Host a) (Host b) e = ap Host ((key_decides host_cmp host_order a b).0 e)
target_exact (Host a) (Group b) e = absurd (false≢true e)
target_exact (Host a) ToCpu e = absurd (false≢true e)
target_exact (Host a) Discard e = absurd (false≢true e)
target_exact (Group a) (Host b) e = absurd (false≢true e)
target_exact (Group a) (Group b) e = ap Group ((key_decides group_cmp group_order a b).0 e)
target_exact (Group a) ToCpu e = absurd (false≢true e)
target_exact (Group a) Discard e = absurd (false≢true e)
target_exact ToCpu (Host b) e = absurd (false≢true e)
target_exact ToCpu (Group b) e = absurd (false≢true e)
target_exact ToCpu ToCpu e = refl
target_exact ToCpu Discard e = absurd (false≢true e)
target_exact Discard (Host b) e = absurd (false≢true e)
target_exact Discard (Group b) e = absurd (false≢true e)
target_exact Discard ToCpu e = absurd (false≢true e)
target_exact Discard Discard e = refl

target_holds : (a : HopTarget) → same_target a a ≡ true
target_holds (Host a) = ap is_eq (same_key host_cmp host_order a)
target_holds (Group a) = ap is_eq (same_key group_cmp group_order a)
target_holds ToCpu = refl
target_holds Discard = refl

-- entries of such keys and rows
entries_decide : {K V : Type 0} (cmp : K → K → Ordering) → IsKeyOrder cmp → (same : V → V → Bool) → ((x y : V) → Decides (same x y) (x ≡ y)) → (xs ys : List (K × V)) → Decides (same_entries cmp same xs ys) (xs ≡ ys)
entries_decide {K} {V} cmp order same test xs ys = slice_eq-Decides one xs ys (same_entries cmp same xs ys) refl
  where
    one : (x y : K × V) → Decides (eq_by_cmp cmp x.0 y.0 && same x.1 y.1) (x ≡ y)
    one x y = both (x ≡ y) (eq_by_cmp cmp x.0 y.0) (same x.1 y.1) (key_decides cmp order x.0 y.0) (test x.1 y.1)
        (λ key row. ap (λ (k : K). (k, x.1)) key ∙ ap (λ (v : V). (y.0, v)) row)
        (λ is. (ap (λ (e : K × V). e.0) is, ap (λ (e : K × V). e.1) is))

pub l2_decide : (xs ys : List (L2Key × L2Row)) → Decides (same_entries l2_cmp same_l2 xs ys) (xs ≡ ys)
l2_decide = entries_decide l2_cmp l2_order same_l2 l2_decides

pub hosts_decide : (xs ys : List (HostKey × HostRow)) → Decides (same_entries host_cmp same_host xs ys) (xs ≡ ys)
hosts_decide = entries_decide host_cmp host_order same_host host_decides

pub groups_decide : (xs ys : List (List HostKey × List Bool)) → Decides (same_entries group_cmp (pointwise beq) xs ys) (xs ≡ ys)
groups_decide = entries_decide group_cmp group_order (pointwise beq) (λ x y. slice_eq-Decides booleans_Decides x y (pointwise beq x y) refl)

pub routes_decide : (xs ys : List (RouteKey × HopTarget)) → Decides (same_entries route_cmp same_target xs ys) (xs ≡ ys)
routes_decide = entries_decide route_cmp route_order same_target (λ a b. (target_exact a b, (λ same. ap (same_target a) (sym same) ∙ target_holds a)))

pub marks_same : (a b : List Bool) → pointwise beq a b ≡ pointwise beq a b
marks_same a b = refl
