-- Acts on neighbours and stations keep a linked state linked.
use Rattle.std.proofs.Common.{◌≡◌, ◌==◌, ℕ, true, false, not, List, Option, Some, subst}
use Rattle.std.specs.Ordering.{nat_cmp}
use Rattle.std.specs.Option.{is_none}
use Rattle.std.proofs.lemmas.Bool.{not-false}
use Rattle.std.proofs.lemmas.Bool.Decides.{Decides-eqb}
use Rattle.keyed.specs.Keyed.{at, put, without}
use Rattle.keyed.specs.KeyedLaws.{ascends-put, ascends-without}
use Rattle.keyed.specs.Cases.{found}
use Rattle.keyed.specs.EveryLaws.{every-put, every-without}
use Rattle.keyed.specs.HasLaws.{has_found}
use Rattle.keyed.specs.Tests.{NoneHolds}
use Rattle.net_types.specs.declared.ip.Ip.{Ip}
use Rattle.net_types.specs.declared.table.L2Key.{L2Key}
use Rattle.net_types.specs.KeyOrder.{l2_cmp, l2_order}
use Rattle.switch_model.specs.declared.act.Act.TheVariants.{NeighborSet, NeighborPending, NeighborDel, MacSet, MacDel}
use Rattle.switch_model.specs.declared.key.NeighborKey.{NeighborKey}
use Rattle.switch_model.specs.declared.record.IntfRec.{IntfRec}
use Rattle.switch_model.specs.declared.record.MacRec.{MacRec}
use Rattle.switch_model.specs.declared.record.NeighborRec.TheVariants.{Pending, Reachable}
use Rattle.switch_model.specs.declared.record.PortRec.{PortRec}
use Rattle.switch_model.specs.Addresses.{is_on}
use Rattle.switch_model.specs.Effect.{effect}
use Rattle.switch_model.specs.Facts.{addrs_of, addrs_at, is_in_vlan, is_in_vlan_of}
use Rattle.switch_model.specs.PlainState.{PlainState, intf_at, port_at}
use Rattle.switch_model.specs.Reason.{reasons}
use Rattle.switch_model.specs.StateKeys.{neighbor_cmp, neighbor_order}
use Rattle.switch_laws.proofs.OtherPart.{other_macs, other_neighbors}
use Rattle.switch_laws.specs.Linked.{IsLinked, IsPortIn, IsNeighbor, IsStation}

-- what the tests say of an interface that is there
on_intf : (m : PlainState) (intf : ℕ) (ip : Ip) (i : IntfRec) → intf_at m intf ≡ Some i → not (is_on (addrs_at m intf) ip) ≡ false → is_on i.addrs ip ≡ true
on_intf m intf ip i is on = not-false (is_on i.addrs ip) (subst (λ (o : Option IntfRec). not (is_on (addrs_of o) ip) ≡ false) is on)

-- and of a port
pub in_vlan : (ports : List (ℕ × PortRec)) (port vlan : ℕ) → is_none (at nat_cmp port ports) ≡ false → not (is_in_vlan vlan (at nat_cmp port ports)) ≡ false → IsPortIn ports port vlan
in_vlan ports port vlan there within =
    let p = found (at nat_cmp port ports) there in
    let same : (p.0.vlan == vlan) ≡ true = not-false (p.0.vlan == vlan) (subst (λ (o : Option PortRec). not (is_in_vlan vlan o) ≡ false) p.1 within) in
    record { value = p.0; there = p.1; such = (Decides-eqb p.0.vlan vlan).0 same }

pub neighbor_set-kept : (m : PlainState) (intf : ℕ) (ip : Ip) (mac port : ℕ) → NoneHolds (reasons m (NeighborSet intf ip mac port)) → IsLinked m → IsLinked (effect m (NeighborSet intf ip mac port))
neighbor_set-kept m intf ip mac port none is =
    let key : NeighborKey = record { intf = intf; ip = ip } in
    let i = found (intf_at m intf) none.1.0 in
    let in_it : not (is_in_vlan i.0.vlan (port_at m port)) ≡ false = subst (λ (o : Option IntfRec). not (is_in_vlan_of o (port_at m port)) ≡ false) i.1 none.1.1.1.1.0 in
    let new : IsNeighbor m.ports m.intfs key (Reachable mac port) = (record { value = i.0; there = i.1; such = (on_intf m intf ip i.0 i.1 none.1.1.1.0, in_vlan m.ports port i.0.vlan none.0 in_it) }, none.1.1.0) in
    other_neighbors m (put neighbor_cmp key (Reachable mac port) m.neighbors) is (ascends-put neighbor_cmp neighbor_order key (Reachable mac port) m.neighbors is.in_order.neighbors)
    (every-put neighbor_cmp neighbor_order (IsNeighbor m.ports m.intfs) key (Reachable mac port) m.neighbors new is.neighbors)

pub neighbor_pending-kept : (m : PlainState) (intf : ℕ) (ip : Ip) → NoneHolds (reasons m (NeighborPending intf ip)) → IsLinked m → IsLinked (effect m (NeighborPending intf ip))
neighbor_pending-kept m intf ip none is =
    let key : NeighborKey = record { intf = intf; ip = ip } in
    let i = found (intf_at m intf) none.0 in
    let new : IsNeighbor m.ports m.intfs key Pending = record { value = i.0; there = i.1; such = on_intf m intf ip i.0 i.1 none.1.0 } in
    other_neighbors m (put neighbor_cmp key Pending m.neighbors) is (ascends-put neighbor_cmp neighbor_order key Pending m.neighbors is.in_order.neighbors)
    (every-put neighbor_cmp neighbor_order (IsNeighbor m.ports m.intfs) key Pending m.neighbors new is.neighbors)

pub neighbor_del-kept : (m : PlainState) (intf : ℕ) (ip : Ip) → IsLinked m → IsLinked (effect m (NeighborDel intf ip))
neighbor_del-kept m intf ip is =
    let key : NeighborKey = record { intf = intf; ip = ip } in
    other_neighbors m (without neighbor_cmp key m.neighbors) is (ascends-without neighbor_cmp neighbor_order key m.neighbors is.in_order.neighbors)
    (every-without neighbor_cmp neighbor_order (IsNeighbor m.ports m.intfs) key m.neighbors is.in_order.neighbors is.neighbors)

pub mac_set-kept : (m : PlainState) (vlan mac port : ℕ) → NoneHolds (reasons m (MacSet vlan mac port)) → IsLinked m → IsLinked (effect m (MacSet vlan mac port))
mac_set-kept m vlan mac port none is =
    let key : L2Key = record { vlan = vlan; mac = mac } in
    let value : MacRec = record { port = port } in
    let new : IsStation m.vlans m.ports key value = (has_found nat_cmp vlan m.vlans none.0, in_vlan m.ports port vlan none.1.0 none.1.1.1.0, none.1.1.0) in
    other_macs m (put l2_cmp key value m.macs) is (ascends-put l2_cmp l2_order key value m.macs is.in_order.macs) (every-put l2_cmp l2_order (IsStation m.vlans m.ports) key value m.macs new is.macs)

pub mac_del-kept : (m : PlainState) (vlan mac : ℕ) → IsLinked m → IsLinked (effect m (MacDel vlan mac))
mac_del-kept m vlan mac is =
    let key : L2Key = record { vlan = vlan; mac = mac } in
    other_macs m (without l2_cmp key m.macs) is (ascends-without l2_cmp l2_order key m.macs is.in_order.macs) (every-without l2_cmp l2_order (IsStation m.vlans m.ports) key m.macs is.in_order.macs is.macs)
