-- Worked examples: each reason of each update of interfaces and addresses.
use Rattle.std.proofs.Common.{◌≡◌, None, Some, [], ◌∷◌, refl}
use Rattle.switch_model.specs.declared.act.Act.TheVariants.{IntfAdd, IntfDel, AddrAdd, AddrDel, NeighborPending}
use Rattle.switch_model.specs.declared.verdict.Reason.TheVariants.{NoVlan, NoIntf, IntfExists, VlanHasIntf, IntfInUse, BadMac, AddrExists, AddrOverlap, NoAddr, AddrInUse}
use Rattle.switch_model.proofs.Notation.{dotted, ten, link_local, slash, mac, after, why, IsFirst}
use Rattle.switch_model.proofs.ExamplesPortReasons.{small}

-- intf add
intf_add_of_a_new_interface : why small (IntfAdd 3 12 0 (mac 1 3)) ≡ None
intf_add_of_a_new_interface = refl

intf_add_on_no_vlan : why small (IntfAdd 3 13 0 (mac 1 3)) ≡ Some NoVlan
intf_add_on_no_vlan = refl

intf_add_of_an_interface_that_is_there : why small (IntfAdd 1 12 0 (mac 1 3)) ≡ Some IntfExists
intf_add_of_an_interface_that_is_there = refl

intf_add_on_a_vlan_that_has_one : why small (IntfAdd 3 10 0 (mac 1 3)) ≡ Some VlanHasIntf
intf_add_on_a_vlan_that_has_one = refl

intf_add_of_no_mac : why small (IntfAdd 3 12 0 0) ≡ Some BadMac
intf_add_of_no_mac = refl

-- `01:00:5e:00:00:01`
intf_add_of_a_group_mac : why small (IntfAdd 3 12 0 1101088686081) ≡ Some BadMac
intf_add_of_a_group_mac = refl

intf_add_of_no_mac_on_a_vlan_that_has_one : IsFirst small (IntfAdd 3 10 0 0) VlanHasIntf (BadMac ∷ [])
intf_add_of_no_mac_on_a_vlan_that_has_one = (refl, refl)

intf_add_again : IsFirst small (IntfAdd 1 10 0 (mac 1 1)) IntfExists (VlanHasIntf ∷ [])
intf_add_again = (refl, refl)

intf_add_of_an_interface_that_is_there_on_no_vlan : IsFirst small (IntfAdd 1 13 0 (mac 1 1)) NoVlan (IntfExists ∷ [])
intf_add_of_an_interface_that_is_there_on_no_vlan = (refl, refl)

-- intf del
intf_del_of_a_bare_interface : why (after small (AddrDel 2 (slash (dotted 10 0 1 1) 24) ∷ [])) (IntfDel 2) ≡ None
intf_del_of_a_bare_interface = refl

intf_del_of_no_interface : why small (IntfDel 3) ≡ Some NoIntf
intf_del_of_no_interface = refl

intf_del_of_an_interface_in_use : why small (IntfDel 1) ≡ Some IntfInUse
intf_del_of_an_interface_in_use = refl

intf_del_of_an_interface_with_an_address : why small (IntfDel 2) ≡ Some IntfInUse
intf_del_of_an_interface_with_an_address = refl

intf_del_of_an_interface_with_a_neighbor : why (after small (AddrDel 2 (slash (dotted 10 0 1 1) 24) ∷ NeighborPending 2 (link_local 9) ∷ [])) (IntfDel 2) ≡ Some IntfInUse
intf_del_of_an_interface_with_a_neighbor = refl

-- no updates build this state, in which a neighbour's interface isn't there
intf_del_of_no_interface_that_is_used : IsFirst (record small { intfs = [] }) (IntfDel 1) NoIntf (IntfInUse ∷ [])
intf_del_of_no_interface_that_is_used = (refl, refl)

-- addr add
addr_add_of_a_new_subnet : why small (AddrAdd 1 (slash (dotted 10 0 2 1) 24)) ≡ None
addr_add_of_a_new_subnet = refl

addr_add_to_no_interface : why small (AddrAdd 3 (slash (dotted 10 0 2 1) 24)) ≡ Some NoIntf
addr_add_to_no_interface = refl

addr_add_of_an_ip_that_is_there : why small (AddrAdd 1 (slash (ten 1) 24)) ≡ Some AddrExists
addr_add_of_an_ip_that_is_there = refl

addr_add_over_a_subnet_of_another_interface : why small (AddrAdd 1 (slash (dotted 10 0 1 129) 25)) ≡ Some AddrOverlap
addr_add_over_a_subnet_of_another_interface = refl

-- `10.0.0.0/16` lies over both subnets
addr_add_of_an_ip_that_is_there_over_another_subnet : IsFirst small (AddrAdd 1 (slash (ten 1) 16)) AddrExists (AddrOverlap ∷ [])
addr_add_of_an_ip_that_is_there_over_another_subnet = (refl, refl)

-- no subnet overlaps in another VRF, and none with a link-local address
addr_add_of_a_subnet_of_another_vrf : why (after small (IntfAdd 3 12 1 (mac 1 3) ∷ [])) (AddrAdd 3 (slash (ten 1) 24)) ≡ None
addr_add_of_a_subnet_of_another_vrf = refl

addr_add_of_a_link_local_ip_twice_in_a_vrf : why (after small (AddrAdd 1 (slash (link_local 1) 64) ∷ [])) (AddrAdd 2 (slash (link_local 1) 64)) ≡ None
addr_add_of_a_link_local_ip_twice_in_a_vrf = refl

-- addr del
addr_del_of_an_unused_address : why small (AddrDel 2 (slash (dotted 10 0 1 1) 24)) ≡ None
addr_del_of_an_unused_address = refl

addr_del_of_no_interface : why (after small (AddrDel 2 (slash (dotted 10 0 1 1) 24) ∷ IntfDel 2 ∷ [])) (AddrDel 2 (slash (dotted 10 0 1 1) 24)) ≡ Some NoIntf
addr_del_of_no_interface = refl

addr_del_of_no_address : why small (AddrDel 1 (slash (dotted 10 0 1 1) 24)) ≡ Some NoAddr
addr_del_of_no_address = refl

addr_del_of_another_length : why small (AddrDel 1 (slash (ten 1) 25)) ≡ Some NoAddr
addr_del_of_another_length = refl

addr_del_under_a_neighbor : why small (AddrDel 1 (slash (ten 1) 24)) ≡ Some AddrInUse
addr_del_under_a_neighbor = refl

-- the neighbour lies in another subnet of the interface too
addr_del_of_one_of_two : why (after small (AddrAdd 1 (slash (ten 2) 25) ∷ [])) (AddrDel 1 (slash (ten 1) 24)) ≡ None
addr_del_of_one_of_two = refl

-- a link-local address is no subnet
addr_del_of_a_link_local_address : why (after small (AddrAdd 1 (slash (link_local 1) 64) ∷ NeighborPending 1 (link_local 9) ∷ [])) (AddrDel 1 (slash (link_local 1) 64)) ≡ None
addr_del_of_a_link_local_address = refl

addr_del_of_no_address_of_no_interface : IsFirst small (AddrDel 3 (slash (ten 1) 24)) NoIntf (NoAddr ∷ [])
addr_del_of_no_address_of_no_interface = (refl, refl)

addr_del_of_another_length_over_a_neighbor : IsFirst small (AddrDel 1 (slash (ten 1) 25)) NoAddr (AddrInUse ∷ [])
addr_del_of_another_length_over_a_neighbor = (refl, refl)
