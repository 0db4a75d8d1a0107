-- Updates as they are printed.
use Rattle.std.specs.Prelude.{ℕ, List, [], ◌∷◌, ◌++◌, codes, if◌then◌else◌}
use Rattle.std.specs.Fmt.{decimal}
use Rattle.net_types.specs.declared.client.Client.{Client}
use Rattle.net_types.specs.declared.client.Client.TheVariants.{Interface, Static, Openr, Ebgp, Ibgp}
use Rattle.net_types.specs.declared.hop.Hop.{Hop}
use Rattle.net_types.specs.Cidr.{Cidr}
use Rattle.ip_text.specs.Printed.{ip_text, prefix_text, addr_text, mac_text, hop_text}
use Rattle.switch_model.specs.declared.act.Act.{Act}
use Rattle.switch_model.specs.declared.act.Act.TheVariants.{VlanAdd, VlanDel, PortAdd, PortDel, PortVlan, PortUp, PortDown, IntfAdd, IntfDel, AddrAdd, AddrDel, NeighborSet, NeighborPending, NeighborDel, MacSet, MacDel, RouteSet, RouteDel, ClientSync}
use Rattle.switch_model.specs.declared.act.Update.{Update}
use Rattle.switch_model.specs.declared.via.Via.{Via}
use Rattle.switch_model.specs.declared.via.Via.TheVariants.{Hops, ToCpu, Discard}

-- the word for a client
abbrev pub client_text : Client → List ℕ
client_text Interface = codes "interface"
client_text Static = codes "static"
client_text Openr = codes "openr"
client_text Ebgp = codes "ebgp"
client_text Ibgp = codes "ibgp"

-- hops in the order given, each behind a space
abbrev pub hops_text : List Hop → List ℕ
hops_text [] = []
hops_text (hop ∷ hops) = codes " " ++ (hop_text hop ++ hops_text hops)

-- what a route does with packets
abbrev pub via_text : Via → List ℕ
via_text (Hops hops) = codes "via" ++ hops_text hops
via_text ToCpu = codes "cpu"
via_text Discard = codes "drop"

-- a prefix, and what its route does
abbrev pub item_text : Cidr × Via → List ℕ
item_text item = prefix_text item.0 ++ (codes " " ++ via_text item.1)

-- items behind others, each behind a semicolon
abbrev pub more_items_text : List (Cidr × Via) → List ℕ
more_items_text [] = []
more_items_text (item ∷ items) = codes " ; " ++ (item_text item ++ more_items_text items)

-- items in the order given, with a semicolon between two
abbrev pub items_text : List (Cidr × Via) → List ℕ
items_text [] = []
items_text (item ∷ items) = codes " " ++ (item_text item ++ more_items_text items)

-- the words of an act on routes
abbrev pub route_act_text : Act → List ℕ
route_act_text (RouteSet vrf prefix client via) = codes "route set " ++ (decimal vrf ++ (codes " " ++ (prefix_text prefix ++ (codes " " ++ (client_text client ++ (codes " " ++ via_text via))))))
route_act_text (RouteDel vrf prefix client) = codes "route del " ++ (decimal vrf ++ (codes " " ++ (prefix_text prefix ++ (codes " " ++ client_text client))))
route_act_text (ClientSync vrf client items) = codes "client sync " ++ (decimal vrf ++ (codes " " ++ (client_text client ++ items_text items)))
route_act_text _ = []

-- the words of an act on neighbours and stations, or on what comes after them
abbrev pub neighbor_act_text : Act → List ℕ
neighbor_act_text (NeighborSet intf ip mac port) = codes "neighbor set " ++ (decimal intf ++ (codes " " ++ (ip_text ip ++ (codes " " ++ (mac_text mac ++ (codes " " ++ decimal port))))))
neighbor_act_text (NeighborPending intf ip) = codes "neighbor pending " ++ (decimal intf ++ (codes " " ++ ip_text ip))
neighbor_act_text (NeighborDel intf ip) = codes "neighbor del " ++ (decimal intf ++ (codes " " ++ ip_text ip))
neighbor_act_text (MacSet vlan mac port) = codes "mac set " ++ (decimal vlan ++ (codes " " ++ (mac_text mac ++ (codes " " ++ decimal port))))
neighbor_act_text (MacDel vlan mac) = codes "mac del " ++ (decimal vlan ++ (codes " " ++ mac_text mac))
neighbor_act_text act = route_act_text act

-- the words of an act, joined by single spaces
abbrev pub act_text : Act → List ℕ
act_text (VlanAdd vlan name) = codes "vlan add " ++ (decimal vlan ++ (codes " " ++ name))
act_text (VlanDel vlan) = codes "vlan del " ++ decimal vlan
act_text (PortAdd port vlan) = codes "port add " ++ (decimal port ++ (codes " " ++ decimal vlan))
act_text (PortDel port) = codes "port del " ++ decimal port
act_text (PortVlan port vlan) = codes "port vlan " ++ (decimal port ++ (codes " " ++ decimal vlan))
act_text (PortUp port) = codes "port up " ++ decimal port
act_text (PortDown port) = codes "port down " ++ decimal port
act_text (IntfAdd intf vlan vrf mac) = codes "intf add " ++ (decimal intf ++ (codes " " ++ (decimal vlan ++ (codes " " ++ (decimal vrf ++ (codes " " ++ mac_text mac))))))
act_text (IntfDel intf) = codes "intf del " ++ decimal intf
act_text (AddrAdd intf addr) = codes "addr add " ++ (decimal intf ++ (codes " " ++ addr_text addr))
act_text (AddrDel intf addr) = codes "addr del " ++ (decimal intf ++ (codes " " ++ addr_text addr))
act_text act = neighbor_act_text act

-- the mark `alone` stands before the act
abbrev pub update_text : Update → List ℕ
update_text update = (if update.alone then codes "alone " else []) ++ act_text update.act
