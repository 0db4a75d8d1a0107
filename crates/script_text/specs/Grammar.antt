-- What each line of a script says, word by word.
use Rattle.std.specs.Prelude.{ℕ, ◌-◌, Bool, true, false, List, [], ◌∷◌, ◌++◌, codes, map}
use Rattle.net_types.specs.Cidr.{Cidr}
use Rattle.switch_model.specs.declared.act.Act.{Act}
use Rattle.switch_model.specs.declared.act.Act.TheVariants.{VlanAdd, VlanDel, PortAdd, PortDel, PortVlan, PortUp, PortDown, IntfAdd, IntfDel, AddrAdd, AddrDel, NeighborSet, NeighborPending, NeighborDel, MacSet, MacDel, RouteSet, RouteDel, ClientSync}
use Rattle.switch_model.specs.declared.act.Update.{Update}
use Rattle.switch_model.specs.declared.query.Query.{Query}
use Rattle.switch_model.specs.declared.query.Query.TheVariants as queries
use Rattle.switch_model.specs.declared.via.Via.{Via}
use Rattle.switch_model.specs.declared.via.Via.TheVariants.{Hops, ToCpu, Discard}
use Rattle.script_words.specs.Grammar.{Token, key, number, vlan, port, intf, vrf, vlan_name, name, ip, addr, prefix, mac, hop, client}
use Rattle.script_text.specs.declared.script.Start.{Start}
use Rattle.script_text.specs.declared.script.Start.TheVariants.{Cold, Warm}
use Rattle.script_text.specs.declared.script.Job.{Job}
use Rattle.script_text.specs.declared.script.Job.TheVariants.{Submit, Settle, Pump, Peek, Tables, Show}
use Rattle.script_text.specs.declared.script.Line.{Line}

-- an action: "via" HOP*, "cpu" or "drop"
abbrev pub action : Via → List Token
action (Hops hops) = key (codes "via") ∷ map hop hops
action ToCpu = key (codes "cpu") ∷ []
action Discard = key (codes "drop") ∷ []

-- an item: PREFIX ACTION
abbrev pub item : Cidr × Via → List Token
item x = prefix x.0 ∷ action x.1

-- items behind others: (";" ITEM)*
abbrev pub more_items : List (Cidr × Via) → List Token
more_items [] = []
more_items (x ∷ xs) = key (codes ";") ∷ (item x ++ more_items xs)

-- items: [ITEM (";" ITEM)*]
abbrev pub items : List (Cidr × Via) → List Token
items [] = []
items (x ∷ xs) = item x ++ more_items xs

-- an act on the routes of a VRF
abbrev pub route_act : Act → List Token
route_act (RouteSet n p c via) = key (codes "route") ∷ key (codes "set") ∷ vrf n ∷ prefix p ∷ client c ∷ action via
route_act (RouteDel n p c) = key (codes "route") ∷ key (codes "del") ∷ vrf n ∷ prefix p ∷ client c ∷ []
route_act (ClientSync n c xs) = key (codes "client") ∷ key (codes "sync") ∷ vrf n ∷ client c ∷ items xs
route_act _ = []

-- an act on an interface's addresses and neighbours, or on a VLAN's stations
abbrev pub station_act : Act → List Token
station_act (AddrAdd i a) = key (codes "addr") ∷ key (codes "add") ∷ intf i ∷ addr a ∷ []
station_act (AddrDel i a) = key (codes "addr") ∷ key (codes "del") ∷ intf i ∷ addr a ∷ []
station_act (NeighborSet i a m p) = key (codes "neighbor") ∷ key (codes "set") ∷ intf i ∷ ip a ∷ mac m ∷ port p ∷ []
station_act (NeighborPending i a) = key (codes "neighbor") ∷ key (codes "pending") ∷ intf i ∷ ip a ∷ []
station_act (NeighborDel i a) = key (codes "neighbor") ∷ key (codes "del") ∷ intf i ∷ ip a ∷ []
station_act (MacSet v m p) = key (codes "mac") ∷ key (codes "set") ∷ vlan v ∷ mac m ∷ port p ∷ []
station_act (MacDel v m) = key (codes "mac") ∷ key (codes "del") ∷ vlan v ∷ mac m ∷ []
station_act other = route_act other

-- an act: its keywords, and what it names
abbrev pub act : Act → List Token
act (VlanAdd v n) = key (codes "vlan") ∷ key (codes "add") ∷ vlan v ∷ vlan_name n ∷ []
act (VlanDel v) = key (codes "vlan") ∷ key (codes "del") ∷ vlan v ∷ []
act (PortAdd p v) = key (codes "port") ∷ key (codes "add") ∷ port p ∷ vlan v ∷ []
act (PortDel p) = key (codes "port") ∷ key (codes "del") ∷ port p ∷ []
act (PortVlan p v) = key (codes "port") ∷ key (codes "vlan") ∷ port p ∷ vlan v ∷ []
act (PortUp p) = key (codes "port") ∷ key (codes "up") ∷ port p ∷ []
act (PortDown p) = key (codes "port") ∷ key (codes "down") ∷ port p ∷ []
act (IntfAdd i v n m) = key (codes "intf") ∷ key (codes "add") ∷ intf i ∷ vlan v ∷ vrf n ∷ mac m ∷ []
act (IntfDel i) = key (codes "intf") ∷ key (codes "del") ∷ intf i ∷ []
act other = station_act other

-- a mark stands where it is set
abbrev pub marked : Bool → List ℕ → List Token → List Token
marked true text more = key text ∷ more
marked false text more = more

-- an update: ["alone"] ACT
abbrev pub update : Update → List Token
update u = marked u.alone (codes "alone") (act u.act)

-- a question about the state
abbrev pub query : Query → List Token
query queries.Version = key (codes "version") ∷ []
query queries.Counts = key (codes "counts") ∷ []
query (queries.Port p) = key (codes "port") ∷ port p ∷ []
query (queries.Route n a) = key (codes "route") ∷ vrf n ∷ ip a ∷ []

-- what a caller does: ["queue"] UPDATE, or one of the others
abbrev pub job : Job → List Token
job (Submit queue u) = marked queue (codes "queue") (update u)
job Settle = key (codes "settle") ∷ []
job Pump = key (codes "pump") ∷ []
job Peek = key (codes "peek") ∷ []
job Tables = key (codes "tables") ∷ []
job (Show q) = key (codes "show") ∷ query q

-- a line of a phase: a caller's number, which is below the number of callers, and what the caller does
abbrev pub line : ℕ → Line → List Token
line callers l = number 0 (callers - 1) l.caller ∷ job l.job

-- the first line: "start cold" L2 HOST GROUP ROUTE, or "start warm" NAME
abbrev pub start : Start → List Token
start (Cold caps) = key (codes "start") ∷ key (codes "cold") ∷ number 0 65536 caps.l2 ∷ number 0 65536 caps.host ∷ number 0 4096 caps.group ∷ number 0 65536 caps.route ∷ []
start (Warm n) = key (codes "start") ∷ key (codes "warm") ∷ name n ∷ []

-- the second line: "limit" N
abbrev pub limit : ℕ → List Token
limit n = key (codes "limit") ∷ number 1 1000000 n ∷ []

-- the third line: "callers" N
abbrev pub callers : ℕ → List Token
callers n = key (codes "callers") ∷ number 1 16 n ∷ []

-- a base line: "base" ACT
abbrev pub base : Act → List Token
base a = key (codes "base") ∷ act a

-- the line that a phase begins with
abbrev pub phase : List Token
phase = key (codes "phase") ∷ []
