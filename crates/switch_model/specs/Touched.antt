-- Which keys updates touch: those that their effects put, change or take away.
use Rattle.std.specs.Prelude.{ℕ, List, [], ◌∷◌, ◌++◌, map, filter}
use Rattle.net_types.specs.declared.client.Client.{Client}
use Rattle.net_types.specs.declared.ip.Ip.{Ip}
use Rattle.net_types.specs.declared.ip.Ip.TheVariants.{V4, V6}
use Rattle.net_types.specs.declared.table.L2Key.{L2Key}
use Rattle.net_types.specs.Cidr.{Cidr}
use Rattle.switch_model.specs.declared.act.Act.{Act}
use Rattle.switch_model.specs.declared.act.Act.TheVariants.{VlanAdd, VlanDel, PortAdd, PortDel, PortVlan, PortUp, PortDown, IntfAdd, IntfDel, AddrAdd, AddrDel, NeighborSet, NeighborPending, NeighborDel, MacSet, MacDel, RouteSet, RouteDel, ClientSync}
use Rattle.switch_model.specs.declared.act.Update.{Update}
use Rattle.switch_model.specs.declared.journal.Entry.{Entry}
use Rattle.switch_model.specs.declared.key.NeighborKey.{NeighborKey}
use Rattle.switch_model.specs.declared.key.RibKey.{RibKey}
use Rattle.switch_model.specs.declared.verdict.Verdict.{Verdict}
use Rattle.switch_model.specs.declared.verdict.Verdict.TheVariants.{Accepted, Invalid, Full}
use Rattle.switch_model.specs.declared.via.Via.{Via}
use Rattle.switch_model.specs.Effect.{is_route_of}
use Rattle.switch_model.specs.Journal.{after_verdict}
use Rattle.switch_model.specs.PlainState.{PlainState}
use Rattle.switch_model.specs.Reason.{reason}
use Rattle.switch_model.specs.Round.{verdict_in_run}

-- keys of each part; neighbours of IPv4, by ARP, and of IPv6, by NDP, are two parts here
pub record Touched : Type 0 where
  pub vlans : List ℕ
  pub ports : List ℕ
  pub intfs : List ℕ
  pub macs : List L2Key
  pub arps : List NeighborKey
  pub ndps : List NeighborKey
  pub routes : List RibKey

-- no key of any part
abbrev pub untouched : Touched
untouched = record { vlans = []; ports = []; intfs = []; macs = []; arps = []; ndps = []; routes = [] }

-- one neighbour, of its family's part
abbrev pub touched_neighbor : ℕ → Ip → Touched
touched_neighbor intf (V4 n) = record untouched { arps = record { intf = intf; ip = V4 n } ∷ [] }
touched_neighbor intf (V6 n) = record untouched { ndps = record { intf = intf; ip = V6 n } ∷ [] }

-- the keys of the client's routes in the VRF that stand there
abbrev pub keys_there : PlainState → ℕ → Client → List RibKey
keys_there m vrf client = map (λ e. e.0) (filter (λ e. is_route_of vrf client e.0) m.routes)

-- the keys of the client's routes in the VRF that are listed
abbrev pub keys_listed : ℕ → Client → List (Cidr × Via) → List RibKey
keys_listed vrf client routes = map (λ r. record { vrf = vrf; prefix = r.0; client = client }) routes

-- each act touches the one entry that it is on; a sync touches all routes of its client in its VRF that stand there, and the listed ones
abbrev pub touched : PlainState → Act → Touched
touched m (VlanAdd vlan name) = record untouched { vlans = vlan ∷ [] }
touched m (VlanDel vlan) = record untouched { vlans = vlan ∷ [] }
touched m (PortAdd port vlan) = record untouched { ports = port ∷ [] }
touched m (PortDel port) = record untouched { ports = port ∷ [] }
touched m (PortVlan port vlan) = record untouched { ports = port ∷ [] }
touched m (PortUp port) = record untouched { ports = port ∷ [] }
touched m (PortDown port) = record untouched { ports = port ∷ [] }
touched m (IntfAdd intf vlan vrf mac) = record untouched { intfs = intf ∷ [] }
touched m (IntfDel intf) = record untouched { intfs = intf ∷ [] }
touched m (AddrAdd intf addr) = record untouched { intfs = intf ∷ [] }
touched m (AddrDel intf addr) = record untouched { intfs = intf ∷ [] }
touched m (NeighborSet intf ip mac port) = touched_neighbor intf ip
touched m (NeighborPending intf ip) = touched_neighbor intf ip
touched m (NeighborDel intf ip) = touched_neighbor intf ip
touched m (MacSet vlan mac port) = record untouched { macs = record { vlan = vlan; mac = mac } ∷ [] }
touched m (MacDel vlan mac) = record untouched { macs = record { vlan = vlan; mac = mac } ∷ [] }
touched m (RouteSet vrf prefix client via) = record untouched { routes = record { vrf = vrf; prefix = prefix; client = client } ∷ [] }
touched m (RouteDel vrf prefix client) = record untouched { routes = record { vrf = vrf; prefix = prefix; client = client } ∷ [] }
touched m (ClientSync vrf client routes) = record untouched { routes = keys_there m vrf client ++ keys_listed vrf client routes }

-- the keys of both
abbrev pub touched_both : Touched → Touched → Touched
touched_both a b = record {
  vlans = a.vlans ++ b.vlans;
  ports = a.ports ++ b.ports;
  intfs = a.intfs ++ b.intfs;
  macs = a.macs ++ b.macs;
  arps = a.arps ++ b.arps;
  ndps = a.ndps ++ b.ndps;
  routes = a.routes ++ b.routes;
}

-- what an update with that verdict touches: only an accepted one touches anything
abbrev pub touched_verdict : PlainState → Update → Verdict → Touched
touched_verdict m update Accepted = touched m update.act
touched_verdict m update (Invalid r) = untouched
touched_verdict m update (Full t) = untouched

-- what the accepted updates of these entries touch, each after those before it
abbrev pub touched_entries : PlainState → List Entry → Touched
touched_entries m [] = untouched
touched_entries m (entry ∷ es) = touched_both (touched_verdict m entry.update entry.verdict) (touched_entries (after_verdict m entry.update entry.verdict) es)

-- what updates touch that are judged and done in turn
abbrev pub touched_run : PlainState → List Update → Touched
touched_run m [] = untouched
touched_run m (update ∷ us) = touched_both (touched_verdict m update (verdict_in_run (reason m update))) (touched_run (after_verdict m update (verdict_in_run (reason m update))) us)
