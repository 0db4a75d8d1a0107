-- Worked examples: each reason of each update of neighbours and stations.
use Rattle.std.proofs.Common.{◌≡◌, None, Some, [], ◌∷◌, refl}
use Rattle.switch_model.specs.declared.act.Act.TheVariants.{NeighborSet, NeighborPending, NeighborDel, MacSet, MacDel}
use Rattle.switch_model.specs.declared.verdict.Reason.TheVariants.{NoVlan, NoPort, NoIntf, BadMac, NotInSubnet, PortNotInVlan, NoNeighbor, NoMac}
use Rattle.switch_model.proofs.Notation.{dotted, ten, link_local, mac, why, IsFirst}
use Rattle.switch_model.proofs.ExamplesPortReasons.{small}

-- neighbor set
neighbor_set_on_a_subnet : why small (NeighborSet 1 (ten 8) (mac 0 8) 1) ≡ None
neighbor_set_on_a_subnet = refl

neighbor_set_again : why small (NeighborSet 1 (ten 9) (mac 0 8) 1) ≡ None
neighbor_set_again = refl

neighbor_set_behind_no_port : why small (NeighborSet 1 (ten 8) (mac 0 8) 3) ≡ Some NoPort
neighbor_set_behind_no_port = refl

neighbor_set_on_no_interface : why small (NeighborSet 3 (ten 8) (mac 0 8) 1) ≡ Some NoIntf
neighbor_set_on_no_interface = refl

neighbor_set_of_no_mac : why small (NeighborSet 1 (ten 8) 0 1) ≡ Some BadMac
neighbor_set_of_no_mac = refl

neighbor_set_outside_the_subnets : why small (NeighborSet 1 (dotted 10 0 1 8) (mac 0 8) 1) ≡ Some NotInSubnet
neighbor_set_outside_the_subnets = refl

neighbor_set_behind_a_port_of_another_vlan : why small (NeighborSet 1 (ten 8) (mac 0 8) 2) ≡ Some PortNotInVlan
neighbor_set_behind_a_port_of_another_vlan = refl

neighbor_set_outside_the_subnets_behind_a_port_of_another_vlan : IsFirst small (NeighborSet 1 (dotted 10 0 1 8) (mac 0 8) 2) NotInSubnet (PortNotInVlan ∷ [])
neighbor_set_outside_the_subnets_behind_a_port_of_another_vlan = (refl, refl)

neighbor_set_of_no_mac_outside_the_subnets : IsFirst small (NeighborSet 1 (dotted 10 0 1 8) 0 1) BadMac (NotInSubnet ∷ [])
neighbor_set_of_no_mac_outside_the_subnets = (refl, refl)

neighbor_set_of_no_mac_on_no_interface : IsFirst small (NeighborSet 3 (ten 8) 0 1) NoIntf (BadMac ∷ NotInSubnet ∷ PortNotInVlan ∷ [])
neighbor_set_of_no_mac_on_no_interface = (refl, refl)

neighbor_set_behind_no_port_on_no_interface : IsFirst small (NeighborSet 3 (ten 8) (mac 0 8) 3) NoPort (NoIntf ∷ NotInSubnet ∷ PortNotInVlan ∷ [])
neighbor_set_behind_no_port_on_no_interface = (refl, refl)

-- a link-local ip is on each interface
neighbor_set_of_a_link_local_ip : why small (NeighborSet 1 (link_local 9) (mac 0 8) 1) ≡ None
neighbor_set_of_a_link_local_ip = refl

-- neighbor pending
neighbor_pending_on_a_subnet : why small (NeighborPending 1 (ten 8)) ≡ None
neighbor_pending_on_a_subnet = refl

neighbor_pending_on_no_interface : why small (NeighborPending 3 (link_local 9)) ≡ Some NoIntf
neighbor_pending_on_no_interface = refl

neighbor_pending_outside_the_subnets : why small (NeighborPending 1 (dotted 10 0 1 8)) ≡ Some NotInSubnet
neighbor_pending_outside_the_subnets = refl

neighbor_pending_outside_the_subnets_of_no_interface : IsFirst small (NeighborPending 3 (ten 8)) NoIntf (NotInSubnet ∷ [])
neighbor_pending_outside_the_subnets_of_no_interface = (refl, refl)

-- neighbor del
neighbor_del_of_a_neighbor : why small (NeighborDel 1 (ten 9)) ≡ None
neighbor_del_of_a_neighbor = refl

-- no updates build this state, in which a neighbour's interface isn't there
neighbor_del_on_no_interface : why (record small { intfs = [] }) (NeighborDel 1 (ten 9)) ≡ Some NoIntf
neighbor_del_on_no_interface = refl

neighbor_del_of_no_neighbor : why small (NeighborDel 1 (ten 8)) ≡ Some NoNeighbor
neighbor_del_of_no_neighbor = refl

neighbor_del_of_no_neighbor_on_no_interface : IsFirst small (NeighborDel 3 (ten 9)) NoIntf (NoNeighbor ∷ [])
neighbor_del_of_no_neighbor_on_no_interface = (refl, refl)

-- mac set
mac_set_of_a_new_station : why small (MacSet 11 (mac 0 8) 2) ≡ None
mac_set_of_a_new_station = refl

mac_set_again : why small (MacSet 10 (mac 0 9) 1) ≡ None
mac_set_again = refl

mac_set_in_no_vlan : why (record small { vlans = [] }) (MacSet 10 (mac 0 8) 1) ≡ Some NoVlan
mac_set_in_no_vlan = refl

mac_set_behind_no_port : why (record small { ports = [] }) (MacSet 10 (mac 0 8) 1) ≡ Some NoPort
mac_set_behind_no_port = refl

mac_set_of_no_mac : why small (MacSet 10 0 1) ≡ Some BadMac
mac_set_of_no_mac = refl

-- `01:00:5e:00:00:01`
mac_set_of_a_group_mac : why small (MacSet 10 1101088686081 1) ≡ Some BadMac
mac_set_of_a_group_mac = refl

mac_set_behind_a_port_of_another_vlan : why small (MacSet 10 (mac 0 8) 2) ≡ Some PortNotInVlan
mac_set_behind_a_port_of_another_vlan = refl

mac_set_of_no_mac_behind_a_port_of_another_vlan : IsFirst small (MacSet 10 0 2) BadMac (PortNotInVlan ∷ [])
mac_set_of_no_mac_behind_a_port_of_another_vlan = (refl, refl)

mac_set_of_no_mac_behind_no_port : IsFirst small (MacSet 10 0 3) NoPort (BadMac ∷ PortNotInVlan ∷ [])
mac_set_of_no_mac_behind_no_port = (refl, refl)

mac_set_behind_no_port_in_no_vlan : IsFirst small (MacSet 13 (mac 0 8) 3) NoVlan (NoPort ∷ PortNotInVlan ∷ [])
mac_set_behind_no_port_in_no_vlan = (refl, refl)

-- mac del
mac_del_of_a_station : why small (MacDel 10 (mac 0 9)) ≡ None
mac_del_of_a_station = refl

-- no updates build this state, in which a station's VLAN isn't there
mac_del_in_no_vlan : why (record small { vlans = [] }) (MacDel 10 (mac 0 9)) ≡ Some NoVlan
mac_del_in_no_vlan = refl

mac_del_of_no_station : why small (MacDel 11 (mac 0 9)) ≡ Some NoMac
mac_del_of_no_station = refl

mac_del_of_no_station_in_no_vlan : IsFirst small (MacDel 13 (mac 0 9)) NoVlan (NoMac ∷ [])
mac_del_of_no_station_in_no_vlan = (refl, refl)
