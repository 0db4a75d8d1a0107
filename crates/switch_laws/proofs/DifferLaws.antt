-- How many rows differ.
use Rattle.std.proofs.Common.{◌≡◌, ◌+◌, ◌==◌, ◌&&◌, ℕ, Bool, true, List, length, refl, sym, ap, ◌∙◌, arith}
use Rattle.std.specs.Bool.{beq, Decides}
use Rattle.std.specs.Cmp.{Equal-is, booleans_Decides}
use Rattle.std.specs.Cmp.Lexicographic.{pointwise}
use Rattle.std.specs.Ordering.{eq_by_cmp, is_eq}
use Rattle.std.specs.declared.cmp.Ordering.{Ordering}
use Rattle.std.proofs.lemmas.Bool.{false≢true}
use Rattle.std.proofs.lemmas.Bool.Decides.{Decides-and, Decides-eqb}
use Rattle.std.proofs.lemmas.Slice.Eq.{slice_eq-Decides}
use Rattle.keyed.specs.Differing.{AreDifferingKeys, differing_keys}
use Rattle.keyed.specs.DifferingLaws.{differing-none, differing-same, differing-turned, differing-zero}
use Rattle.keyed.specs.Keyed.{IsKeyOrder}
use Rattle.keyed.specs.KeyedLaws.{same as same_key}
use Rattle.net_types.specs.declared.table.HopTarget.{HopTarget}
use Rattle.net_types.specs.declared.table.HopTarget.TheVariants.{Host, Group, ToCpu, Discard}
use Rattle.net_types.specs.declared.table.HostAct.{HostAct}
use Rattle.net_types.specs.declared.table.HostAct.TheVariants.{Forward, Trap}
use Rattle.net_types.specs.declared.table.HostKey.{HostKey}
use Rattle.net_types.specs.declared.table.HostRow.{HostRow}
use Rattle.net_types.specs.declared.table.L2Key.{L2Key}
use Rattle.net_types.specs.declared.table.L2Row.{L2Row}
use Rattle.net_types.specs.declared.table.RouteKey.{RouteKey}
use Rattle.net_types.specs.Differ.{AscendRows, differ, same_act, same_host, same_l2, same_target}
use Rattle.net_types.specs.KeyOrder.{l2_cmp, l2_order, host_cmp, host_order, group_cmp, group_order, route_cmp, route_order}
use Rattle.net_types.specs.Rows.{Rows}

-- the tests tell rows apart

pub marks_decide : (x y : List Bool) → Decides (pointwise beq x y) (x ≡ y)
marks_decide x y = slice_eq-Decides booleans_Decides x y (pointwise beq x y) refl

-- what both parts of a row decide
both : {P Q : Type 0} (R : Type 0) (a b : Bool) → Decides a P → Decides b Q → (P → Q → R) → (R → P × Q) → Decides (a && b) R
both R a b of_a of_b there back =
    let parts = Decides-and a b of_a of_b in ((λ e. let p = parts.0 e in there p.0 p.1), (λ r. parts.1 (back r)))

pub l2_decides : (a b : L2Row) → Decides (same_l2 a b) (a ≡ b)
l2_decides a b = both (a ≡ b) (a.port == b.port) (beq a.up b.up) (Decides-eqb a.port b.port) (booleans_Decides a.up b.up)
    (λ port up. ap (λ (n : ℕ). record a { port = n }) port ∙ ap (λ (u : Bool). record b { up = u }) up)
    (λ same. (ap (λ (r : L2Row). r.port) same, ap (λ (r : L2Row). r.up) same))

act_exact : (a b : HostAct) → same_act a b ≡ true → a ≡ b
act_exact (Forward m p u) (Forward m2 p2 u2) e =
    let parts = (Decides-and (m == m2) ((p == p2) && beq u u2) (Decides-eqb m m2) (Decides-and (p == p2) (beq u u2) (Decides-eqb p p2) (booleans_Decides u u2))).0 e in
    ap (λ (x : ℕ). Forward x p u) parts.0 ∙ ap (λ (x : ℕ). Forward m2 x u) parts.1.0 ∙ ap (λ (x : Bool). Forward m2 p2 x) parts.1.1
act_exact (Forward m p u) Trap e = absurd (false≢true e)
act_exact Trap (Forward m p u) e = absurd (false≢true e)
act_exact Trap Trap e = refl

act_holds : (a : HostAct) → same_act a a ≡ true
act_holds (Forward m p u) = (Decides-and (m == m) ((p == p) && beq u u) (Decides-eqb m m) (Decides-and (p == p) (beq u u) (Decides-eqb p p) (booleans_Decides u u))).1 (refl, (refl, refl))
act_holds Trap = refl

act_decides : (a b : HostAct) → Decides (same_act a b) (a ≡ b)
act_decides a b = (act_exact a b, (λ same. ap (same_act a) (sym same) ∙ act_holds a))

pub host_decides : (a b : HostRow) → Decides (same_host a b) (a ≡ b)
host_decides a b = both (a ≡ b) (a.vrf == b.vrf) (same_act a.act b.act) (Decides-eqb a.vrf b.vrf) (act_decides a.act b.act)
    (λ vrf act. ap (λ (n : ℕ). record a { vrf = n }) vrf ∙ ap (λ (x : HostAct). record b { act = x }) act)
    (λ same. (ap (λ (r : HostRow). r.vrf) same, ap (λ (r : HostRow). r.act) same))

-- keys that are tied are one
tied : {K : Type 0} (cmp : K → K → Ordering) → IsKeyOrder cmp → (a b : K) → eq_by_cmp cmp a b ≡ true → a ≡ b
tied cmp order a b e = order.exact a b ((Equal-is (cmp a b)).0 e)

target_exact : (a b : HopTarget) → same_target a b ≡ true → a ≡ b
target_exact (Host a) (Host b) e = ap Host (tied host_cmp host_order a b e)
target_exact (Host a) (Group b) e = absurd (false≢true e)
target_exact (Host a) ToCpu e = absurd (false≢true e)
target_exact (Host a) Discard e = absurd (false≢true e)
target_exact (Group a) (Host b) e = absurd (false≢true e)
target_exact (Group a) (Group b) e = ap Group (tied group_cmp group_order a b e)
target_exact (Group a) ToCpu e = absurd (false≢true e)
target_exact (Group a) Discard e = absurd (false≢true e)
target_exact ToCpu (Host b) e = absurd (false≢true e)
target_exact ToCpu (Group b) e = absurd (false≢true e)
target_exact ToCpu ToCpu e = refl
target_exact ToCpu Discard e = absurd (false≢true e)
target_exact Discard (Host b) e = absurd (false≢true e)
target_exact Discard (Group b) e = absurd (false≢true e)
target_exact Discard ToCpu e = absurd (false≢true e)
target_exact Discard Discard e = refl

target_holds : (a : HopTarget) → same_target a a ≡ true
target_holds (Host a) = ap is_eq (same_key host_cmp host_order a)
target_holds (Group a) = ap is_eq (same_key group_cmp group_order a)
target_holds ToCpu = refl
target_holds Discard = refl

pub target_decides : (a b : HopTarget) → Decides (same_target a b) (a ≡ b)
target_decides a b = (target_exact a b, (λ same. ap (same_target a) (sym same) ∙ target_holds a))

-- lists of the keys that differ, table by table
pub differ_counts : (a b : Rows) (l2 : List L2Key) (host : List HostKey) (group : List (List HostKey)) (route : List RouteKey) →
    AreDifferingKeys l2_cmp l2 a.l2 b.l2 → AreDifferingKeys host_cmp host a.host b.host → AreDifferingKeys group_cmp group a.group b.group → AreDifferingKeys route_cmp route a.route b.route →
    length l2 + length host + length group + length route ≡ differ a b
differ_counts a b l2 host group route is_l2 is_host is_group is_route =
    ap (λ (n : ℕ). n + length host + length group + length route) (ap length (differing-same l2_cmp l2_order same_l2 l2_decides l2 a.l2 b.l2 is_l2))
    ∙ ap (λ (n : ℕ). length (differing_keys l2_cmp same_l2 a.l2 b.l2) + n + length group + length route) (ap length (differing-same host_cmp host_order same_host host_decides host a.host b.host is_host))
    ∙ ap (λ (n : ℕ). length (differing_keys l2_cmp same_l2 a.l2 b.l2) + length (differing_keys host_cmp same_host a.host b.host) + n + length route) (ap length (differing-same group_cmp group_order (pointwise beq) marks_decide group a.group b.group is_group))
    ∙ ap (λ (n : ℕ). length (differing_keys l2_cmp same_l2 a.l2 b.l2) + length (differing_keys host_cmp same_host a.host b.host) + length (differing_keys group_cmp (pointwise beq) a.group b.group) + n) (ap length (differing-same route_cmp route_order same_target target_decides route a.route b.route is_route))

pub differ-none : (a : Rows) → differ a a ≡ 0
differ-none a = omega (arith, differing-none l2_cmp l2_order same_l2 l2_decides a.l2, differing-none host_cmp host_order same_host host_decides a.host, differing-none group_cmp group_order (pointwise beq) marks_decide a.group, differing-none route_cmp route_order same_target target_decides a.route)

pub differ-turned : (a b : Rows) → differ a b ≡ differ b a
differ-turned a b = omega (arith, differing-turned l2_cmp l2_order same_l2 l2_decides a.l2 b.l2, differing-turned host_cmp host_order same_host host_decides a.host b.host, differing-turned group_cmp group_order (pointwise beq) marks_decide a.group b.group, differing-turned route_cmp route_order same_target target_decides a.route b.route)

pub differ-zero : (a b : Rows) → AscendRows a → AscendRows b → differ a b ≡ 0 → a ≡ b
differ-zero a b asc bsc e =
    let l2 : a.l2 ≡ b.l2 = differing-zero l2_cmp l2_order same_l2 l2_decides a.l2 b.l2 asc.l2 bsc.l2 (omega (arith, e)) in
    let host : a.host ≡ b.host = differing-zero host_cmp host_order same_host host_decides a.host b.host asc.host bsc.host (omega (arith, e)) in
    let group : a.group ≡ b.group = differing-zero group_cmp group_order (pointwise beq) marks_decide a.group b.group asc.group bsc.group (omega (arith, e)) in
    let route : a.route ≡ b.route = differing-zero route_cmp route_order same_target target_decides a.route b.route asc.route bsc.route (omega (arith, e)) in
    ap (λ l. record a { l2 = l }) l2 ∙ ap (λ l. record a { l2 = b.l2; host = l }) host ∙ ap (λ l. record a { l2 = b.l2; host = b.host; group = l }) group ∙ ap (λ l. record b { route = l }) route
