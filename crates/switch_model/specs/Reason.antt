-- Why an update is invalid: for each act the reasons that may apply, in their order, each with the test by which it holds.
use Rattle.std.specs.Prelude.{◌&&◌, not, Bool, Option, List, [], ◌∷◌, ◌++◌}
use Rattle.std.specs.List.{list_any}
use Rattle.net_types.specs.Cidr.{Cidr}
use Rattle.net_types.specs.Prefix.{subnet_of}
use Rattle.switch_model.specs.declared.act.Act.{Act}
use Rattle.switch_model.specs.declared.act.Act.TheVariants.{VlanAdd, VlanDel, PortAdd, PortDel, PortVlan, PortUp, PortDown, IntfAdd, IntfDel, AddrAdd, AddrDel, NeighborSet, NeighborPending, NeighborDel, MacSet, MacDel, RouteSet, RouteDel, ClientSync}
use Rattle.switch_model.specs.declared.act.Update.{Update}
use Rattle.switch_model.specs.declared.verdict.Reason.{Reason}
use Rattle.switch_model.specs.declared.verdict.Reason.TheVariants.{NoVlan, VlanExists, VlanInUse, NoPort, PortExists, PortInUse, NoIntf, IntfExists, VlanHasIntf, IntfInUse, BadMac, AddrExists, AddrOverlap, NoAddr, AddrInUse, NotInSubnet, PortNotInVlan, NoNeighbor, NoMac, InterfaceClient, FamilyMix, NoHops, TooManyHops, DoubleHop, DoublePrefix, NoRoute}
use Rattle.switch_model.specs.declared.via.Via.{Via}
use Rattle.switch_model.specs.Addresses.{has_subnet, is_on}
use Rattle.switch_model.specs.Facts.{has_vlan, no_vlan, has_port, no_port, has_intf, no_intf, no_neighbor, no_station, no_route, vlan_has_intf, vlan_used, port_used, intf_used, addrs_at, has_ip, has_addr, overlaps_other, orphans, is_in_vlan, is_in_vlan_of, is_bad_mac, is_interface}
use Rattle.switch_model.specs.First.{first_that_holds}
use Rattle.switch_model.specs.Hops.{is_mixed, lacks_hops, has_too_many, has_double_hop, has_double_prefix}
use Rattle.switch_model.specs.PlainState.{PlainState, port_at, intf_at}

-- acts on VLANs, ports, interfaces and addresses
abbrev pub port_reasons : PlainState → Act → List (Reason × Bool)
port_reasons m (VlanAdd vlan name) =
    (VlanExists, has_vlan m vlan)
    ∷ []
port_reasons m (VlanDel vlan) =
    (NoVlan, no_vlan m vlan)
    ∷ (VlanInUse, vlan_used m vlan)
    ∷ []
port_reasons m (PortAdd port vlan) =
    (NoVlan, no_vlan m vlan)
    ∷ (PortExists, has_port m port)
    ∷ []
port_reasons m (PortDel port) =
    (NoPort, no_port m port)
    ∷ (PortInUse, port_used m port)
    ∷ []
port_reasons m (PortVlan port vlan) =
    (NoVlan, no_vlan m vlan)
    ∷ (NoPort, no_port m port)
    ∷ (PortInUse, port_used m port)
    ∷ []
port_reasons m (PortUp port) =
    (NoPort, no_port m port)
    ∷ []
port_reasons m (PortDown port) =
    (NoPort, no_port m port)
    ∷ []
port_reasons m (IntfAdd intf vlan vrf mac) =
    (NoVlan, no_vlan m vlan)
    ∷ (IntfExists, has_intf m intf)
    ∷ (VlanHasIntf, vlan_has_intf m vlan)
    ∷ (BadMac, is_bad_mac mac)
    ∷ []
port_reasons m (IntfDel intf) =
    (NoIntf, no_intf m intf)
    ∷ (IntfInUse, intf_used m intf)
    ∷ []
port_reasons m (AddrAdd intf addr) =
    (NoIntf, no_intf m intf)
    ∷ (AddrExists, has_ip (addrs_at m intf) addr)
    ∷ (AddrOverlap, has_subnet addr && overlaps_other m intf (subnet_of addr))
    ∷ []
port_reasons m (AddrDel intf addr) =
    (NoIntf, no_intf m intf)
    ∷ (NoAddr, not (has_addr (addrs_at m intf) addr))
    ∷ (AddrInUse, orphans m intf addr)
    ∷ []
port_reasons m _ = []

-- acts on neighbours and stations
abbrev pub neighbor_reasons : PlainState → Act → List (Reason × Bool)
neighbor_reasons m (NeighborSet intf ip mac port) =
    (NoPort, no_port m port)
    ∷ (NoIntf, no_intf m intf)
    ∷ (BadMac, is_bad_mac mac)
    ∷ (NotInSubnet, not (is_on (addrs_at m intf) ip))
    ∷ (PortNotInVlan, not (is_in_vlan_of (intf_at m intf) (port_at m port)))
    ∷ []
neighbor_reasons m (NeighborPending intf ip) =
    (NoIntf, no_intf m intf)
    ∷ (NotInSubnet, not (is_on (addrs_at m intf) ip))
    ∷ []
neighbor_reasons m (NeighborDel intf ip) =
    (NoIntf, no_intf m intf)
    ∷ (NoNeighbor, no_neighbor m intf ip)
    ∷ []
neighbor_reasons m (MacSet vlan mac port) =
    (NoVlan, no_vlan m vlan)
    ∷ (NoPort, no_port m port)
    ∷ (BadMac, is_bad_mac mac)
    ∷ (PortNotInVlan, not (is_in_vlan vlan (port_at m port)))
    ∷ []
neighbor_reasons m (MacDel vlan mac) =
    (NoVlan, no_vlan m vlan)
    ∷ (NoMac, no_station m vlan mac)
    ∷ []
neighbor_reasons m _ = []

-- the hops of routes: a reason holds where it holds of some route of the list
abbrev pub hop_reasons : List (Cidr × Via) → List (Reason × Bool)
hop_reasons routes =
    (FamilyMix, list_any (λ r. is_mixed r.0 r.1) routes)
    ∷ (NoHops, list_any (λ r. lacks_hops r.1) routes)
    ∷ (TooManyHops, list_any (λ r. has_too_many r.1) routes)
    ∷ (DoubleHop, list_any (λ r. has_double_hop r.1) routes)
    ∷ []

-- acts on routes
abbrev pub route_reasons : PlainState → Act → List (Reason × Bool)
route_reasons m (RouteSet vrf prefix client via) =
    (InterfaceClient, is_interface client)
    ∷ hop_reasons ((prefix, via) ∷ [])
route_reasons m (RouteDel vrf prefix client) =
    (InterfaceClient, is_interface client)
    ∷ (NoRoute, no_route m vrf prefix client)
    ∷ []
route_reasons m (ClientSync vrf client routes) =
    (InterfaceClient, is_interface client)
    ∷ (hop_reasons routes ++ (DoublePrefix, has_double_prefix routes) ∷ [])
route_reasons m _ = []

-- each act is of one of the three kinds, and has no reasons of the other two
abbrev pub reasons : PlainState → Act → List (Reason × Bool)
reasons m act = port_reasons m act ++ neighbor_reasons m act ++ route_reasons m act

-- why an act is invalid: the first of its reasons that holds
abbrev pub reason_of_act : PlainState → Act → Option Reason
reason_of_act m act = first_that_holds (reasons m act)

-- why an update is invalid: the mark `alone` plays no part
abbrev pub reason : PlainState → Update → Option Reason
reason m update = reason_of_act m update.act
