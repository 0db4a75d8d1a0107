-- Worked examples: interfaces, addresses and neighbours.
use Rattle.std.proofs.Common.{◌≡◌, None, Some, [], ◌∷◌, refl, codes}
use Rattle.switch_model.specs.declared.act.Act.TheVariants.{VlanAdd, VlanDel, PortAdd, IntfAdd, IntfDel, AddrAdd, AddrDel, NeighborSet, NeighborPending, MacSet}
use Rattle.switch_model.specs.declared.verdict.Reason.TheVariants.{VlanInUse, NoPort, VlanHasIntf, IntfInUse, BadMac, AddrExists, AddrOverlap, NoAddr, AddrInUse, NotInSubnet, PortNotInVlan}
use Rattle.switch_model.specs.PlainState.{PlainState}
use Rattle.switch_model.specs.Sound.{IsSound}
use Rattle.switch_model.proofs.Notation.{dotted, ten, link_local, slash, mac, after, state, why}

-- two interfaces of VRF 0, on VLANs of their own; the first one has `10.0.0.1/24`
abbrev pub two_interfaces : PlainState
two_interfaces = state (VlanAdd 10 (codes "a") ∷ VlanAdd 11 (codes "b") ∷ PortAdd 1 10 ∷ IntfAdd 1 10 0 (mac 1 1) ∷ IntfAdd 2 11 0 (mac 1 2) ∷ AddrAdd 1 (slash (ten 1) 24) ∷ [])

two_interfaces_is_sound : IsSound two_interfaces
two_interfaces_is_sound = refl

-- `10.0.0.128/25` lies in `10.0.0.0/24`, which the other interface has
subnet_of_another_interface : why two_interfaces (AddrAdd 2 (slash (ten 129) 25)) ≡ Some AddrOverlap
subnet_of_another_interface = refl

subnet_of_the_same_interface : why two_interfaces (AddrAdd 1 (slash (ten 129) 25)) ≡ None
subnet_of_the_same_interface = refl

same_ip_at_another_length : why two_interfaces (AddrAdd 1 (slash (ten 1) 25)) ≡ Some AddrExists
same_ip_at_another_length = refl

link_local_address : why two_interfaces (AddrAdd 2 (slash (link_local 1) 64)) ≡ None
link_local_address = refl

address_of_another_length : why two_interfaces (AddrDel 1 (slash (ten 1) 25)) ≡ Some NoAddr
address_of_another_length = refl

address_under_a_neighbor : why (after two_interfaces (NeighborPending 1 (ten 9) ∷ [])) (AddrDel 1 (slash (ten 1) 24)) ≡ Some AddrInUse
address_under_a_neighbor = refl

neighbor_behind_no_port : why two_interfaces (NeighborSet 7 (ten 9) (mac 0 9) 8) ≡ Some NoPort
neighbor_behind_no_port = refl

neighbor_outside_the_subnet : why two_interfaces (NeighborSet 1 (dotted 10 0 1 9) (mac 0 9) 1) ≡ Some NotInSubnet
neighbor_outside_the_subnet = refl

neighbor_behind_a_port_of_another_vlan : why two_interfaces (NeighborSet 2 (link_local 9) (mac 0 9) 1) ≡ Some PortNotInVlan
neighbor_behind_a_port_of_another_vlan = refl

second_interface_of_a_vlan : why two_interfaces (IntfAdd 3 10 0 (mac 0 9)) ≡ Some VlanHasIntf
second_interface_of_a_vlan = refl

station_of_no_mac : why two_interfaces (MacSet 10 0 1) ≡ Some BadMac
station_of_no_mac = refl

vlan_of_a_port : why two_interfaces (VlanDel 10) ≡ Some VlanInUse
vlan_of_a_port = refl

interface_with_an_address : why two_interfaces (IntfDel 1) ≡ Some IntfInUse
interface_with_an_address = refl
