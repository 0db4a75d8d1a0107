-- The derived orders and tests of the tables' keys and rows are those that the specification names.
use Rattle.std.proofs.Common.{◌≡◌, List, Bool, true, false, refl, sym, ap, subst, ◌∙◌}
use Rattle.std.specs.Bool.{Decides}
use Rattle.std.specs.Cmp.Lexicographic.{lists_ties, pointwise, slice_cmp}
use Rattle.std.specs.Ordering.{eq_by_cmp}
use Rattle.std.specs.declared.cmp.Ordering.{Ordering}
use Rattle.keyed.specs.Keyed.{IsKeyOrder}
use Rattle.net_types.specs.Derived.{host-derived}
use Rattle.net_types.specs.Derived.{group-derived}
use Rattle.net_types.specs.Differ.{same_host, same_l2, same_target}
use Rattle.net_types.specs.KeyOrder.{group_cmp, group_order, host_cmp, l2_cmp, l2_order}
use Rattle.net_types.specs.contracts.table.HopTargetPartialEq.TheImpl as target_eq
use Rattle.net_types.specs.contracts.table.HostKeyOrd.TheImpl as key_ord
use Rattle.net_types.specs.contracts.table.HostKeyOrd.TheImpl.Laws as key_laws
use Rattle.net_types.specs.contracts.table.HostKeyPartialEq.TheImpl as key_eq
use Rattle.net_types.specs.contracts.table.HostRowPartialEq.TheImpl as host_eq
use Rattle.net_types.specs.contracts.table.L2KeyOrd.TheImpl as l2_ord
use Rattle.net_types.specs.contracts.table.L2RowPartialEq.TheImpl as l2_eq
use Rattle.net_types.specs.declared.table.HostAct.{HostAct}
use Rattle.net_types.specs.declared.table.HostAct.TheVariants.{Forward, Trap}
use Rattle.net_types.specs.declared.table.HopTarget.{HopTarget}
use Rattle.net_types.specs.declared.table.HopTarget.TheVariants.{Host, Group, ToCpu, Discard}
use Rattle.net_types.specs.declared.table.HostKey.{HostKey}
use Rattle.net_types.specs.declared.table.HostRow.{HostRow}
use Rattle.net_types.specs.declared.table.L2Key.{L2Key}
use Rattle.net_types.specs.declared.table.L2Row.{L2Row}
use Rattle.switch_laws.proofs.DifferLaws.{host_decides, l2_decides, target_decides}
use Rattle.row_compare.specs.Compare.{IsTest}

l2_at : (x y : L2Key) → (l2_ord.cmp-value).it x y ≡ l2_cmp x y
l2_at x y = refl

pub l2-derived : (l2_ord.cmp-value).it ≡ l2_cmp
l2-derived = λ i x y. l2_at x y i

pub l2_order-derived : IsKeyOrder (l2_ord.cmp-value).it
l2_order-derived = subst IsKeyOrder (sym l2-derived) l2_order

pub group_order-derived : IsKeyOrder (slice_cmp (key_ord.cmp-value).it)
group_order-derived = subst IsKeyOrder (sym group-derived) group_order

-- a test that answers as one that tells rows apart does so too
test_as : {V : Type 0} (same other : V → V → Bool) → ((x y : V) → same x y ≡ other x y) → IsTest other → IsTest same
test_as same other alike test x y = subst (λ (b : Bool). Decides b (x ≡ y)) (sym (alike x y)) (test x y)

by_up : (a b : L2Row) (u v : Bool) → a.up ≡ u → b.up ≡ v → (l2_eq.eq-value).it a b ≡ same_l2 a b
by_up a b true true x y = rw (x, y) refl
by_up a b true false x y = rw (x, y) refl
by_up a b false true x y = rw (x, y) refl
by_up a b false false x y = rw (x, y) refl

l2_same : (a b : L2Row) → (l2_eq.eq-value).it a b ≡ same_l2 a b
l2_same a b = by_up a b a.up b.up refl refl

pub l2_test-derived : IsTest (l2_eq.eq-value).it
l2_test-derived = test_as (l2_eq.eq-value).it same_l2 l2_same l2_decides

by_act : (a b : HostRow) (u v : HostAct) → a.act ≡ u → b.act ≡ v → (host_eq.eq-value).it a b ≡ same_host a b
by_act a b (Forward m p true) (Forward m2 p2 true) x y = rw (x, y) refl
by_act a b (Forward m p true) (Forward m2 p2 false) x y = rw (x, y) refl
by_act a b (Forward m p true) Trap x y = rw (x, y) refl
by_act a b (Forward m p false) (Forward m2 p2 true) x y = rw (x, y) refl
by_act a b (Forward m p false) (Forward m2 p2 false) x y = rw (x, y) refl
by_act a b (Forward m p false) Trap x y = rw (x, y) refl
by_act a b Trap (Forward m2 p2 true) x y = rw (x, y) refl
by_act a b Trap (Forward m2 p2 false) x y = rw (x, y) refl
by_act a b Trap Trap x y = rw (x, y) refl

host_same : (a b : HostRow) → (host_eq.eq-value).it a b ≡ same_host a b
host_same a b = by_act a b a.act b.act refl refl

pub host_test-derived : IsTest (host_eq.eq-value).it
host_test-derived = test_as (host_eq.eq-value).it same_host host_same host_decides

-- targets name hosts, whose test is derived
host_key_same : (a b : HostKey) → (key_eq.eq-value).it a b ≡ eq_by_cmp host_cmp a b
host_key_same a b = key_laws.lawful.matches_eq a b ∙ ap (λ (c : HostKey → HostKey → Ordering). eq_by_cmp c a b) host-derived

hosts_same : (xs ys : List HostKey) → pointwise (key_eq.eq-value).it xs ys ≡ eq_by_cmp group_cmp xs ys
hosts_same = lists_ties host_cmp host_key_same

target_same : (a b : HopTarget) → (target_eq.eq-value).it a b ≡ same_target a b
target_same (Host a) (Host b) = host_key_same a b
target_same (Host a) (Group b) = refl
target_same (Host a) ToCpu = refl
target_same (Host a) Discard = refl
target_same (Group a) (Host b) = refl
target_same (Group a) (Group b) = hosts_same a b
target_same (Group a) ToCpu = refl
target_same (Group a) Discard = refl
target_same ToCpu (Host b) = refl
target_same ToCpu (Group b) = refl
target_same ToCpu ToCpu = refl
target_same ToCpu Discard = refl
target_same Discard (Host b) = refl
target_same Discard (Group b) = refl
target_same Discard ToCpu = refl
target_same Discard Discard = refl

pub target_test-derived : IsTest (target_eq.eq-value).it
target_test-derived = test_as (target_eq.eq-value).it same_target target_same target_decides
