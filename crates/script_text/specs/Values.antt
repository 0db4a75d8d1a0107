-- Updates whose numbers, names and addresses are in their ranges, as their types hold them.
use Rattle.std.specs.Prelude.{◌≡◌, ◌≤◌, ℕ, true}
use Rattle.std.specs.List.{AllByRecursion}
use Rattle.net_types.specs.Cidr.{Cidr}
use Rattle.net_types.specs.Names.{is_vlan_name}
use Rattle.net_types.specs.Prefix.{IsAddr, IsPrefix}
use Rattle.net_types.specs.Range.{IsPort, IsVlan, IsMac, IsIntf}
use Rattle.ip_text.specs.RoundTrip.{IsIpValue, IsHopValue}
use Rattle.switch_model.specs.declared.act.Act.{Act}
use Rattle.switch_model.specs.declared.act.Act.TheVariants.{VlanAdd, VlanDel, PortAdd, PortDel, PortVlan, PortUp, PortDown, IntfAdd, IntfDel, AddrAdd, AddrDel, NeighborSet, NeighborPending, NeighborDel, MacSet, MacDel, RouteSet, RouteDel, ClientSync}
use Rattle.switch_model.specs.declared.act.Update.{Update}
use Rattle.switch_model.specs.declared.via.Via.{Via}
use Rattle.switch_model.specs.declared.via.Via.TheVariants.{Hops, ToCpu, Discard}

abbrev pub IsVrf : ℕ → Type 0
IsVrf n = n ≤ 65535

abbrev pub IsAddrValue : Cidr → Type 0
IsAddrValue a = IsIpValue a.ip × IsAddr a

abbrev pub IsPrefixValue : Cidr → Type 0
IsPrefixValue p = IsIpValue p.ip × IsPrefix p

abbrev pub IsViaValue : Via → Type 0
IsViaValue (Hops hops) = AllByRecursion IsHopValue hops
IsViaValue ToCpu = Unit {0}
IsViaValue Discard = Unit {0}

abbrev pub IsItemValue : Cidr × Via → Type 0
IsItemValue x = IsPrefixValue x.0 × IsViaValue x.1

-- an act on routes
abbrev pub IsRouteActValue : Act → Type 0
IsRouteActValue (RouteSet n p c via) = IsVrf n × IsPrefixValue p × IsViaValue via
IsRouteActValue (RouteDel n p c) = IsVrf n × IsPrefixValue p
IsRouteActValue (ClientSync n c items) = IsVrf n × AllByRecursion IsItemValue items
IsRouteActValue _ = Unit {0}

-- an act on addresses, neighbours or stations, or one on routes
abbrev pub IsStationActValue : Act → Type 0
IsStationActValue (AddrAdd i a) = IsIntf i × IsAddrValue a
IsStationActValue (AddrDel i a) = IsIntf i × IsAddrValue a
IsStationActValue (NeighborSet i a m p) = IsIntf i × IsIpValue a × IsMac m × IsPort p
IsStationActValue (NeighborPending i a) = IsIntf i × IsIpValue a
IsStationActValue (NeighborDel i a) = IsIntf i × IsIpValue a
IsStationActValue (MacSet v m p) = IsVlan v × IsMac m × IsPort p
IsStationActValue (MacDel v m) = IsVlan v × IsMac m
IsStationActValue other = IsRouteActValue other

abbrev pub IsActValue : Act → Type 0
IsActValue (VlanAdd v n) = IsVlan v × (is_vlan_name n ≡ true)
IsActValue (VlanDel v) = IsVlan v
IsActValue (PortAdd p v) = IsPort p × IsVlan v
IsActValue (PortDel p) = IsPort p
IsActValue (PortVlan p v) = IsPort p × IsVlan v
IsActValue (PortUp p) = IsPort p
IsActValue (PortDown p) = IsPort p
IsActValue (IntfAdd i v n m) = IsIntf i × IsVlan v × IsVrf n × IsMac m
IsActValue (IntfDel i) = IsIntf i
IsActValue other = IsStationActValue other

-- all that the update names is in its range
abbrev pub IsUpdateValue : Update → Type 0
IsUpdateValue update = IsActValue update.act
