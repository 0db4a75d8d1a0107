-- The reasons that apply to each update, in their order, whatever the state.
use Rattle.std.proofs.Common.{◌≡◌, ℕ, List, [], ◌∷◌, refl}
use Rattle.net_types.specs.declared.client.Client.{Client}
use Rattle.net_types.specs.declared.ip.Ip.{Ip}
use Rattle.net_types.specs.Cidr.{Cidr}
use Rattle.switch_model.specs.declared.act.Act.TheVariants.{VlanAdd, VlanDel, PortAdd, PortDel, PortVlan, PortUp, PortDown, IntfAdd, IntfDel, AddrAdd, AddrDel, NeighborSet, NeighborPending, NeighborDel, MacSet, MacDel, RouteSet, RouteDel, ClientSync}
use Rattle.switch_model.specs.declared.verdict.Reason.TheVariants.{NoVlan, VlanExists, VlanInUse, NoPort, PortExists, PortInUse, NoIntf, IntfExists, VlanHasIntf, IntfInUse, BadMac, AddrExists, AddrOverlap, NoAddr, AddrInUse, NotInSubnet, PortNotInVlan, NoNeighbor, NoMac, InterfaceClient, FamilyMix, NoHops, TooManyHops, DoubleHop, DoublePrefix, NoRoute}
use Rattle.switch_model.specs.declared.via.Via.{Via}
use Rattle.switch_model.specs.PlainState.{PlainState}
use Rattle.switch_model.proofs.Notation.{mac, line}

reasons_of_vlan_add : (m : PlainState) → (vlan : ℕ) → (name : List ℕ) → line m (VlanAdd vlan name) ≡ VlanExists ∷ []
reasons_of_vlan_add m vlan name = refl

reasons_of_vlan_del : (m : PlainState) → (vlan : ℕ) → line m (VlanDel vlan) ≡ NoVlan ∷ VlanInUse ∷ []
reasons_of_vlan_del m vlan = refl

reasons_of_port_add : (m : PlainState) → (port : ℕ) → (vlan : ℕ) → line m (PortAdd port vlan) ≡ NoVlan ∷ PortExists ∷ []
reasons_of_port_add m port vlan = refl

reasons_of_port_del : (m : PlainState) → (port : ℕ) → line m (PortDel port) ≡ NoPort ∷ PortInUse ∷ []
reasons_of_port_del m port = refl

reasons_of_port_vlan : (m : PlainState) → (port : ℕ) → (vlan : ℕ) → line m (PortVlan port vlan) ≡ NoVlan ∷ NoPort ∷ PortInUse ∷ []
reasons_of_port_vlan m port vlan = refl

reasons_of_port_up : (m : PlainState) → (port : ℕ) → line m (PortUp port) ≡ NoPort ∷ []
reasons_of_port_up m port = refl

reasons_of_port_down : (m : PlainState) → (port : ℕ) → line m (PortDown port) ≡ NoPort ∷ []
reasons_of_port_down m port = refl

reasons_of_intf_add : (m : PlainState) → (intf : ℕ) → (vlan : ℕ) → (vrf : ℕ) → (mac : ℕ) → line m (IntfAdd intf vlan vrf mac) ≡ NoVlan ∷ IntfExists ∷ VlanHasIntf ∷ BadMac ∷ []
reasons_of_intf_add m intf vlan vrf mac = refl

reasons_of_intf_del : (m : PlainState) → (intf : ℕ) → line m (IntfDel intf) ≡ NoIntf ∷ IntfInUse ∷ []
reasons_of_intf_del m intf = refl

reasons_of_addr_add : (m : PlainState) → (intf : ℕ) → (addr : Cidr) → line m (AddrAdd intf addr) ≡ NoIntf ∷ AddrExists ∷ AddrOverlap ∷ []
reasons_of_addr_add m intf addr = refl

reasons_of_addr_del : (m : PlainState) → (intf : ℕ) → (addr : Cidr) → line m (AddrDel intf addr) ≡ NoIntf ∷ NoAddr ∷ AddrInUse ∷ []
reasons_of_addr_del m intf addr = refl

reasons_of_neighbor_set : (m : PlainState) → (intf : ℕ) → (ip : Ip) → (mac : ℕ) → (port : ℕ) → line m (NeighborSet intf ip mac port) ≡ NoPort ∷ NoIntf ∷ BadMac ∷ NotInSubnet ∷ PortNotInVlan ∷ []
reasons_of_neighbor_set m intf ip mac port = refl

reasons_of_neighbor_pending : (m : PlainState) → (intf : ℕ) → (ip : Ip) → line m (NeighborPending intf ip) ≡ NoIntf ∷ NotInSubnet ∷ []
reasons_of_neighbor_pending m intf ip = refl

reasons_of_neighbor_del : (m : PlainState) → (intf : ℕ) → (ip : Ip) → line m (NeighborDel intf ip) ≡ NoIntf ∷ NoNeighbor ∷ []
reasons_of_neighbor_del m intf ip = refl

reasons_of_mac_set : (m : PlainState) → (vlan : ℕ) → (mac : ℕ) → (port : ℕ) → line m (MacSet vlan mac port) ≡ NoVlan ∷ NoPort ∷ BadMac ∷ PortNotInVlan ∷ []
reasons_of_mac_set m vlan mac port = refl

reasons_of_mac_del : (m : PlainState) → (vlan : ℕ) → (mac : ℕ) → line m (MacDel vlan mac) ≡ NoVlan ∷ NoMac ∷ []
reasons_of_mac_del m vlan mac = refl

reasons_of_route_set : (m : PlainState) → (vrf : ℕ) → (prefix : Cidr) → (client : Client) → (via : Via) → line m (RouteSet vrf prefix client via) ≡ InterfaceClient ∷ FamilyMix ∷ NoHops ∷ TooManyHops ∷ DoubleHop ∷ []
reasons_of_route_set m vrf prefix client via = refl

reasons_of_route_del : (m : PlainState) → (vrf : ℕ) → (prefix : Cidr) → (client : Client) → line m (RouteDel vrf prefix client) ≡ InterfaceClient ∷ NoRoute ∷ []
reasons_of_route_del m vrf prefix client = refl

reasons_of_client_sync : (m : PlainState) → (vrf : ℕ) → (client : Client) → (routes : List (Cidr × Via)) → line m (ClientSync vrf client routes) ≡ InterfaceClient ∷ FamilyMix ∷ NoHops ∷ TooManyHops ∷ DoubleHop ∷ DoublePrefix ∷ []
reasons_of_client_sync m vrf client routes = refl
