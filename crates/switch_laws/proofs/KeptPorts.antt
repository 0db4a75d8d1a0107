-- Acts on ports keep a linked state linked.
use Rattle.std.proofs.Common.{◌≡◌, ◌==◌, ℕ, Bool, true, false, List}
use Rattle.std.specs.List.{list_any}
use Rattle.std.specs.Ordering.{nat_cmp}
use Rattle.std.proofs.lemmas.Bool.{or_parts}
use Rattle.keyed.specs.Keyed.{Ascends, put, without, change}
use Rattle.keyed.specs.KeyOrders.{nat_order}
use Rattle.keyed.specs.KeyedLaws.{ascends-put, ascends-without}
use Rattle.keyed.specs.ValueLaws.{ascends-change}
use Rattle.keyed.specs.Every.{Every}
use Rattle.keyed.specs.EveryLaws.{every_so, every-put, every-without, every-change, none-any}
use Rattle.keyed.specs.HasLaws.{has-put_new, has-without, has-change, has-change_other, has_found, has_so}
use Rattle.keyed.specs.Tests.{NoneHolds}
use Rattle.net_types.specs.declared.table.L2Key.{L2Key}
use Rattle.net_types.specs.KeyOrder.{l2_cmp, l2_order}
use Rattle.switch_model.specs.declared.act.Act.TheVariants.{PortAdd, PortDel, PortVlan, PortUp, PortDown}
use Rattle.switch_model.specs.declared.key.NeighborKey.{NeighborKey}
use Rattle.switch_model.specs.declared.record.MacRec.{MacRec}
use Rattle.switch_model.specs.declared.record.NeighborRec.{NeighborRec}
use Rattle.switch_model.specs.declared.record.NeighborRec.TheVariants.{Pending, Reachable}
use Rattle.switch_model.specs.declared.record.PortRec.{PortRec}
use Rattle.switch_model.specs.Effect.{effect, with_up, with_vlan}
use Rattle.switch_model.specs.Facts.{is_behind, port_used}
use Rattle.switch_model.specs.PlainState.{PlainState}
use Rattle.switch_model.specs.Reason.{reasons}
use Rattle.switch_model.specs.StateKeys.{neighbor_cmp, neighbor_order}
use Rattle.switch_laws.proofs.KeptVlans.{differs}
use Rattle.switch_laws.proofs.OtherPart.{other_ports}
use Rattle.switch_laws.specs.Linked.{IsLinked, IsPortIn, IsPort, IsNeighbor, IsStation}

module _ (m : PlainState) (l : List (ℕ × PortRec)) where
  -- a neighbour behind a port that stays in its VLAN
  neighbor_still : ((q vlan : ℕ) → IsPortIn m.ports q vlan → IsPortIn l q vlan) → (key : NeighborKey) (v : NeighborRec) → IsNeighbor m.ports m.intfs key v → IsNeighbor l m.intfs key v
  neighbor_still stays key Pending is = is
  neighbor_still stays key (Reachable mac port) is = (has_so _ _ (λ i on. (on.0, stays port i.vlan on.1)) is.0, is.1)

  neighbor_past : (port : ℕ) → ((q vlan : ℕ) → (q == port) ≡ false → IsPortIn m.ports q vlan → IsPortIn l q vlan) → (key : NeighborKey) (v : NeighborRec) → is_behind port v ≡ false → IsNeighbor m.ports m.intfs key v → IsNeighbor l m.intfs key v
  neighbor_past port stays key Pending past is = is
  neighbor_past port stays key (Reachable mac its_port) past is = (has_so _ _ (λ i on. (on.0, stays its_port i.vlan past on.1)) is.0, is.1)

  -- each port that is named stays in its VLAN
  pub still_linked : IsLinked m → Ascends nat_cmp l → Every nat_cmp (IsPort m.vlans) l → ((q vlan : ℕ) → IsPortIn m.ports q vlan → IsPortIn l q vlan) → IsLinked (record m { ports = l })
  still_linked is asc ports stays = other_ports m l is asc ports
      (every_so neighbor_cmp neighbor_order (IsNeighbor m.ports m.intfs) (IsNeighbor l m.intfs) m.neighbors (λ k v there has. neighbor_still stays k v has) is.neighbors)
      (every_so l2_cmp l2_order (IsStation m.vlans m.ports) (IsStation m.vlans l) m.macs (λ k v there has. (has.0, stays v.port k.vlan has.1, has.2)) is.macs)

  -- each port but one, and nothing is behind that
  pub unused_linked : (port : ℕ) → (port_used m port ≡ false) → IsLinked m → Ascends nat_cmp l → Every nat_cmp (IsPort m.vlans) l → ((q vlan : ℕ) → (q == port) ≡ false → IsPortIn m.ports q vlan → IsPortIn l q vlan) → IsLinked (record m { ports = l })
  unused_linked port unused is asc ports stays =
      let by_mac : L2Key × MacRec → Bool = λ e. e.1.port == port in
      let by_neighbor : NeighborKey × NeighborRec → Bool = λ e. is_behind port e.1 in
      let apart = or_parts (list_any by_mac m.macs) (list_any by_neighbor m.neighbors) unused in
      other_ports m l is asc ports
      (every_so neighbor_cmp neighbor_order (IsNeighbor m.ports m.intfs) (IsNeighbor l m.intfs) m.neighbors (λ k v there has. neighbor_past port stays k v ((none-any neighbor_cmp neighbor_order by_neighbor m.neighbors apart.1).every k v there) has) is.neighbors)
      (every_so l2_cmp l2_order (IsStation m.vlans m.ports) (IsStation m.vlans l) m.macs (λ k v there has. (has.0, stays v.port k.vlan ((none-any l2_cmp l2_order by_mac m.macs apart.0).every k v there) has.1, has.2)) is.macs)

pub port_add-kept : (m : PlainState) (port vlan : ℕ) → NoneHolds (reasons m (PortAdd port vlan)) → IsLinked m → IsLinked (effect m (PortAdd port vlan))
port_add-kept m port vlan none is =
    let new : PortRec = record { vlan = vlan; up = false } in
    still_linked m (put nat_cmp port new m.ports) is (ascends-put nat_cmp nat_order port new m.ports is.in_order.ports)
    (every-put nat_cmp nat_order (IsPort m.vlans) port new m.ports (has_found nat_cmp vlan m.vlans none.0) is.ports)
    (λ q v has. has-put_new nat_cmp nat_order q port new (λ (p : PortRec). p.vlan ≡ v) m.ports none.1.0 has)

pub port_del-kept : (m : PlainState) (port : ℕ) → NoneHolds (reasons m (PortDel port)) → IsLinked m → IsLinked (effect m (PortDel port))
port_del-kept m port none is =
    unused_linked m (without nat_cmp port m.ports) port none.1.0 is (ascends-without nat_cmp nat_order port m.ports is.in_order.ports)
    (every-without nat_cmp nat_order (IsPort m.vlans) port m.ports is.in_order.ports is.ports)
    (λ q v other has. has-without nat_cmp nat_order q port (λ (p : PortRec). p.vlan ≡ v) m.ports is.in_order.ports (differs q port other) has)

pub port_vlan-kept : (m : PlainState) (port vlan : ℕ) → NoneHolds (reasons m (PortVlan port vlan)) → IsLinked m → IsLinked (effect m (PortVlan port vlan))
port_vlan-kept m port vlan none is =
    unused_linked m (change nat_cmp port (with_vlan vlan) m.ports) port none.1.1.0 is (ascends-change nat_cmp port (with_vlan vlan) m.ports is.in_order.ports)
    (every-change nat_cmp nat_order (IsPort m.vlans) port (with_vlan vlan) m.ports (λ v there has. has_found nat_cmp vlan m.vlans none.0) is.ports)
    (λ q v other has. has-change_other nat_cmp nat_order q port (with_vlan vlan) (λ (p : PortRec). p.vlan ≡ v) m.ports (differs q port other) has)

flip-kept : (m : PlainState) (port : ℕ) (up : Bool) → IsLinked m → IsLinked (record m { ports = change nat_cmp port (with_up up) m.ports })
flip-kept m port up is =
    still_linked m (change nat_cmp port (with_up up) m.ports) is (ascends-change nat_cmp port (with_up up) m.ports is.in_order.ports)
    (every-change nat_cmp nat_order (IsPort m.vlans) port (with_up up) m.ports (λ v there has. has) is.ports)
    (λ q v has. has-change nat_cmp nat_order q port (with_up up) (λ (p : PortRec). p.vlan ≡ v) (λ (p : PortRec). p.vlan ≡ v) m.ports (λ p there in_it. in_it) (λ p same there in_it. in_it) has)

pub port_up-kept : (m : PlainState) (port : ℕ) → IsLinked m → IsLinked (effect m (PortUp port))
port_up-kept m port is = flip-kept m port true is

pub port_down-kept : (m : PlainState) (port : ℕ) → IsLinked m → IsLinked (effect m (PortDown port))
port_down-kept m port is = flip-kept m port false is
