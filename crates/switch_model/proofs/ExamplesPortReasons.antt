-- Worked examples: each reason of each update of VLANs and ports.
use Rattle.std.proofs.Common.{◌≡◌, None, Some, [], ◌∷◌, refl, codes}
use Rattle.net_types.specs.declared.client.Client.TheVariants.{Static}
use Rattle.switch_model.specs.declared.act.Act.TheVariants.{VlanAdd, VlanDel, PortAdd, PortDel, PortVlan, PortUp, PortDown, IntfAdd, AddrAdd, NeighborSet, NeighborPending, NeighborDel, MacSet, MacDel, RouteSet}
use Rattle.switch_model.specs.declared.verdict.Reason.TheVariants.{NoVlan, VlanExists, VlanInUse, NoPort, PortExists, PortInUse}
use Rattle.switch_model.specs.declared.via.Via.TheVariants.{Discard}
use Rattle.switch_model.specs.PlainState.{PlainState}
use Rattle.switch_model.specs.Sound.{IsSound}
use Rattle.switch_model.proofs.Notation.{dotted, ten, slash, eight, mac, after, state, why, IsFirst}

-- two interfaces of VRF 0 on VLANs of their own, and a VLAN and a port beside them; a station and a neighbour behind port 1
abbrev pub small : PlainState
small = state (VlanAdd 10 (codes "a") ∷ VlanAdd 11 (codes "b") ∷ VlanAdd 12 (codes "c") ∷ PortAdd 1 10 ∷ PortAdd 2 11
    ∷ IntfAdd 1 10 0 (mac 1 1) ∷ IntfAdd 2 11 0 (mac 1 2) ∷ AddrAdd 1 (slash (ten 1) 24) ∷ AddrAdd 2 (slash (dotted 10 0 1 1) 24)
    ∷ NeighborSet 1 (ten 9) (mac 0 9) 1 ∷ MacSet 10 (mac 0 9) 1 ∷ RouteSet 0 (eight 20) Static Discard ∷ [])

small_is_sound : IsSound small
small_is_sound = refl

-- vlan add
vlan_add_of_a_new_vlan : why small (VlanAdd 13 (codes "d")) ≡ None
vlan_add_of_a_new_vlan = refl

vlan_add_of_a_vlan_that_is_there : why small (VlanAdd 10 (codes "d")) ≡ Some VlanExists
vlan_add_of_a_vlan_that_is_there = refl

-- vlan del
vlan_del_of_an_unused_vlan : why small (VlanDel 12) ≡ None
vlan_del_of_an_unused_vlan = refl

vlan_del_of_no_vlan : why small (VlanDel 13) ≡ Some NoVlan
vlan_del_of_no_vlan = refl

vlan_del_of_a_vlan_in_use : why small (VlanDel 10) ≡ Some VlanInUse
vlan_del_of_a_vlan_in_use = refl

vlan_del_of_a_ports_vlan : why (after small (PortAdd 3 12 ∷ [])) (VlanDel 12) ≡ Some VlanInUse
vlan_del_of_a_ports_vlan = refl

vlan_del_of_an_interfaces_vlan : why (after small (IntfAdd 3 12 0 (mac 1 3) ∷ [])) (VlanDel 12) ≡ Some VlanInUse
vlan_del_of_an_interfaces_vlan = refl

vlan_del_of_a_stations_vlan : why (after small (PortAdd 3 12 ∷ MacSet 12 (mac 0 8) 3 ∷ PortVlan 3 11 ∷ [])) (VlanDel 12) ≡ Some VlanInUse
vlan_del_of_a_stations_vlan = refl

-- no updates build this state, in which a port's VLAN isn't there
vlan_del_of_no_vlan_that_is_used : IsFirst (record small { vlans = [] }) (VlanDel 10) NoVlan (VlanInUse ∷ [])
vlan_del_of_no_vlan_that_is_used = (refl, refl)

-- port add
port_add_of_a_new_port : why small (PortAdd 3 12) ≡ None
port_add_of_a_new_port = refl

port_add_to_no_vlan : why small (PortAdd 3 13) ≡ Some NoVlan
port_add_to_no_vlan = refl

port_add_of_a_port_that_is_there : why small (PortAdd 1 11) ≡ Some PortExists
port_add_of_a_port_that_is_there = refl

port_add_of_a_port_that_is_there_to_no_vlan : IsFirst small (PortAdd 1 13) NoVlan (PortExists ∷ [])
port_add_of_a_port_that_is_there_to_no_vlan = (refl, refl)

-- port del
port_del_of_an_unused_port : why small (PortDel 2) ≡ None
port_del_of_an_unused_port = refl

port_del_of_no_port : why small (PortDel 3) ≡ Some NoPort
port_del_of_no_port = refl

port_del_of_a_port_in_use : why small (PortDel 1) ≡ Some PortInUse
port_del_of_a_port_in_use = refl

port_del_of_a_stations_port : why (after small (NeighborDel 1 (ten 9) ∷ [])) (PortDel 1) ≡ Some PortInUse
port_del_of_a_stations_port = refl

port_del_of_a_neighbors_port : why (after small (MacDel 10 (mac 0 9) ∷ [])) (PortDel 1) ≡ Some PortInUse
port_del_of_a_neighbors_port = refl

-- a pending neighbour is behind no port
port_del_under_a_pending_neighbor : why (after small (MacDel 10 (mac 0 9) ∷ NeighborPending 1 (ten 9) ∷ [])) (PortDel 1) ≡ None
port_del_under_a_pending_neighbor = refl

-- no updates build this state, in which a station's port isn't there
port_del_of_no_port_that_is_used : IsFirst (record small { ports = [] }) (PortDel 1) NoPort (PortInUse ∷ [])
port_del_of_no_port_that_is_used = (refl, refl)

-- port vlan
port_vlan_of_an_unused_port : why small (PortVlan 2 12) ≡ None
port_vlan_of_an_unused_port = refl

port_vlan_to_no_vlan : why small (PortVlan 2 13) ≡ Some NoVlan
port_vlan_to_no_vlan = refl

port_vlan_of_no_port : why small (PortVlan 3 12) ≡ Some NoPort
port_vlan_of_no_port = refl

port_vlan_of_a_port_in_use : why small (PortVlan 1 12) ≡ Some PortInUse
port_vlan_of_a_port_in_use = refl

port_vlan_of_no_port_to_no_vlan : IsFirst small (PortVlan 3 13) NoVlan (NoPort ∷ [])
port_vlan_of_no_port_to_no_vlan = (refl, refl)

-- no updates build this state, in which a station's port isn't there
port_vlan_of_no_port_that_is_used : IsFirst (record small { ports = [] }) (PortVlan 1 12) NoPort (PortInUse ∷ [])
port_vlan_of_no_port_that_is_used = (refl, refl)

port_vlan_of_a_port_in_use_to_no_vlan : IsFirst small (PortVlan 1 13) NoVlan (PortInUse ∷ [])
port_vlan_of_a_port_in_use_to_no_vlan = (refl, refl)

-- port up, port down
port_up_of_a_port : why small (PortUp 1) ≡ None
port_up_of_a_port = refl

port_up_of_a_port_that_is_up : why (after small (PortUp 1 ∷ [])) (PortUp 1) ≡ None
port_up_of_a_port_that_is_up = refl

port_up_of_no_port : why small (PortUp 3) ≡ Some NoPort
port_up_of_no_port = refl

port_down_of_a_port : why small (PortDown 1) ≡ None
port_down_of_a_port = refl

port_down_of_no_port : why small (PortDown 3) ≡ Some NoPort
port_down_of_no_port = refl
