-- What holds of every state that acts build: the parts ascend, and what an entry names is there.
use Rattle.std.specs.Prelude.{ℕ, ◌≡◌, ◌≢◌, not, true, false, List, [], ◌∷◌}
use Rattle.std.specs.List.{Contains}
use Rattle.std.specs.List.Sorted.{IsStrictlySortedBy}
use Rattle.std.specs.Ordering.{nat_cmp}
use Rattle.keyed.specs.Every.{Every, EachTwo, Has}
use Rattle.keyed.specs.Tests.{NoneHolds}
use Rattle.net_types.specs.declared.table.L2Key.{L2Key}
use Rattle.net_types.specs.Cidr.{Cidr}
use Rattle.net_types.specs.KeyOrder.{l2_cmp, hop_cmp}
use Rattle.net_types.specs.Prefix.{overlaps, subnet_of}
use Rattle.net_types.specs.Unicast.{is_unicast}
use Rattle.switch_model.specs.declared.key.NeighborKey.{NeighborKey}
use Rattle.switch_model.specs.declared.key.RibKey.{RibKey}
use Rattle.switch_model.specs.declared.record.IntfRec.{IntfRec}
use Rattle.switch_model.specs.declared.record.MacRec.{MacRec}
use Rattle.switch_model.specs.declared.record.NeighborRec.{NeighborRec}
use Rattle.switch_model.specs.declared.record.NeighborRec.TheVariants.{Pending, Reachable}
use Rattle.switch_model.specs.declared.record.PortRec.{PortRec}
use Rattle.switch_model.specs.declared.record.RouteRec.{RouteRec}
use Rattle.switch_model.specs.declared.record.RouteRec.TheVariants as kept
use Rattle.switch_model.specs.declared.record.VlanRec.{VlanRec}
use Rattle.switch_model.specs.declared.via.Via.TheVariants.{Hops}
use Rattle.switch_model.specs.Addresses.{addr_cmp, has_subnet, is_on}
use Rattle.switch_model.specs.PlainState.{PlainState, ArePartsInOrder}
use Rattle.switch_model.specs.Facts.{is_interface}
use Rattle.switch_model.specs.Reason.{hop_reasons}
use Rattle.switch_model.specs.StateKeys.{neighbor_cmp, rib_cmp}

-- the VLAN is there
abbrev pub IsVlanThere : List (ℕ × VlanRec) → ℕ → Type 0
IsVlanThere vlans vlan = Has nat_cmp vlan (λ (v : VlanRec). Unit {0}) vlans

-- the port is there, in that VLAN
abbrev pub IsPortIn : List (ℕ × PortRec) → ℕ → ℕ → Type 0
IsPortIn ports port vlan = Has nat_cmp port (λ (p : PortRec). p.vlan ≡ vlan) ports

-- a port's VLAN is there
abbrev pub IsPort : List (ℕ × VlanRec) → ℕ → PortRec → Type 0
IsPort vlans k port = IsVlanThere vlans port.vlan

-- an interface's VLAN is there, its MAC is one station's, and its addresses ascend
abbrev pub IsIntf : List (ℕ × VlanRec) → ℕ → IntfRec → Type 0
IsIntf vlans k intf = IsVlanThere vlans intf.vlan × (not (is_unicast intf.mac) ≡ false) × IsStrictlySortedBy addr_cmp intf.addrs

-- two interfaces have different VLANs, and in one VRF no subnets that overlap
pub record AreApart (a b : IntfRec) : Type 0 where
  pub vlans : a.vlan ≢ b.vlan
  pub subnets : a.vrf ≡ b.vrf → (x y : Cidr) → Contains a.addrs x → Contains b.addrs y → has_subnet x ≡ true → has_subnet y ≡ true → overlaps (subnet_of x) (subnet_of y) ≡ false

-- a neighbour is on its interface, and a reachable one behind a port of the interface's VLAN
abbrev pub IsNeighbor : List (ℕ × PortRec) → List (ℕ × IntfRec) → NeighborKey → NeighborRec → Type 0
IsNeighbor ports intfs key Pending = Has nat_cmp key.intf (λ (i : IntfRec). is_on i.addrs key.ip ≡ true) intfs
IsNeighbor ports intfs key (Reachable mac port) = Has nat_cmp key.intf (λ (i : IntfRec). (is_on i.addrs key.ip ≡ true) × IsPortIn ports port i.vlan) intfs × (not (is_unicast mac) ≡ false)

-- a station's VLAN is there, and its port is in it
abbrev pub IsStation : List (ℕ × VlanRec) → List (ℕ × PortRec) → L2Key → MacRec → Type 0
IsStation vlans ports key mac = IsVlanThere vlans key.vlan × IsPortIn ports mac.port key.vlan × (not (is_unicast key.mac) ≡ false)

-- hops ascend, and no reason holds against them
abbrev pub IsKept : Cidr → RouteRec → Type 0
IsKept prefix (kept.Hops hops) = IsStrictlySortedBy hop_cmp hops × NoneHolds (hop_reasons ((prefix, Hops hops) ∷ []))
IsKept prefix kept.ToCpu = Unit {0}
IsKept prefix kept.Discard = Unit {0}

-- a route is a client's that isn't the switch itself
abbrev pub IsRoute : RibKey → RouteRec → Type 0
IsRoute key route = (is_interface key.client ≡ false) × IsKept key.prefix route

-- the parts are in order, and each entry is such as its act leaves it: what it names is there
pub record IsLinked (m : PlainState) : Type 0 where
  pub in_order : ArePartsInOrder m
  pub ports : Every nat_cmp (IsPort m.vlans) m.ports
  pub intfs : Every nat_cmp (IsIntf m.vlans) m.intfs
  pub intfs_apart : EachTwo nat_cmp AreApart m.intfs
  pub neighbors : Every neighbor_cmp (IsNeighbor m.ports m.intfs) m.neighbors
  pub macs : Every l2_cmp (IsStation m.vlans m.ports) m.macs
  pub routes : Every rib_cmp IsRoute m.routes
