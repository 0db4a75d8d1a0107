-- Reading the lines of a script, word by word.
use Rattle.std.specs.Prelude.{◌-◌, ℕ, suc, Bool, true, false, List, [], ◌∷◌, ◌++◌, length, Option, Some, None, Result, Ok, Err, codes, if◌then◌else◌}
use Rattle.std.specs.Str.{bytes_eq}
use Rattle.net_types.specs.declared.hop.Hop.{Hop}
use Rattle.net_types.specs.declared.table.Caps.{Caps}
use Rattle.net_types.specs.Cidr.{Cidr}
use Rattle.ip_text.specs.Values.{ip_of, prefix_of, addr_of, mac_of, hop_of}
use Rattle.switch_model.specs.declared.act.Act.{Act}
use Rattle.switch_model.specs.declared.act.Act.TheVariants.{VlanAdd, VlanDel, PortAdd, PortDel, PortVlan, PortUp, PortDown, IntfAdd, IntfDel, AddrAdd, AddrDel, NeighborSet, NeighborPending, NeighborDel, MacSet, MacDel, RouteSet, RouteDel, ClientSync}
use Rattle.switch_model.specs.declared.act.Update.{Update}
use Rattle.switch_model.specs.declared.query.Query.{Query}
use Rattle.switch_model.specs.declared.query.Query.TheVariants as queries
use Rattle.switch_model.specs.declared.via.Via.{Via}
use Rattle.switch_model.specs.declared.via.Via.TheVariants.{Hops, ToCpu, Discard}
use Rattle.script_words.specs.Grammar.{client_of}
use Rattle.script_words.specs.Reading.{number_of, vlan_name_of, name_of, one, choose, turned, ended, bad, each}
use Rattle.script_text.specs.declared.script.Start.{Start}
use Rattle.script_text.specs.declared.script.Start.TheVariants.{Cold, Warm}
use Rattle.script_text.specs.declared.script.Job.{Job}
use Rattle.script_text.specs.declared.script.Job.TheVariants.{Submit, Settle, Pump, Peek, Tables, Show}
use Rattle.script_text.specs.declared.script.Line.{Line}
use Rattle.script_text.specs.declared.routes.Place.{Place}
use Rattle.script_text.specs.declared.routes.Place.TheVariants.{First, Action, InHops, Behind, Next}
use Rattle.script_text.specs.declared.entries.Entry.{Entry}
use Rattle.script_text.specs.declared.entries.Entry.TheVariants.{Starts, Limits, Calls, Bases, NewPhase, Does}
use Rattle.script_text.specs.declared.entries.Stage.{Stage}
use Rattle.script_text.specs.declared.entries.Stage.TheVariants.{Opening, Started, Limited, Called, InPhase}

-- an action, to the end of the line
unfoldable pub via_at : List (List ℕ) → Result Via ℕ
via_at = choose (codes "via") (turned Hops (each hop_of [])) (choose (codes "cpu") (ended ToCpu) (choose (codes "drop") (ended Discard) bad))

-- The items of a sync, word by word.

-- an item behind those done
abbrev pub put : List (Cidr × Via) → Cidr → Via → List (Cidr × Via)
put done p via = done ++ ((p, via) ∷ [])

-- a prefix, and then its action
abbrev pub to_action : List (Cidr × Via) → Option Cidr → Option (Place × List (Cidr × Via))
to_action done None = None
to_action done (Some p) = Some (Action p, done)

-- one hop more, or a semicolon that ends the item
abbrev pub to_hop : List (Cidr × Via) → Cidr → List Hop → List ℕ → Option Hop → Option (Place × List (Cidr × Via))
to_hop done p hs word (Some h) = Some (InHops p (hs ++ h ∷ []), done)
to_hop done p hs word None = if bytes_eq word (codes ";") then Some (Next, put done p (Hops hs)) else None

-- where the items stand behind a word
abbrev pub step : Place → List (Cidr × Via) → List ℕ → Option (Place × List (Cidr × Via))
step First done w = to_action done (prefix_of w)
step Next done w = to_action done (prefix_of w)
step (Action p) done w = if bytes_eq w (codes "via") then Some (InHops p [], done) else if bytes_eq w (codes "cpu") then Some (Behind, put done p ToCpu) else if bytes_eq w (codes "drop") then Some (Behind, put done p Discard) else None
step (InHops p hs) done w = to_hop done p hs w (hop_of w)
step Behind done w = if bytes_eq w (codes ";") then Some (Next, done) else None

-- the items, where the line may end here
abbrev pub finish : Place → List (Cidr × Via) → Result (List (Cidr × Via)) ℕ
finish First done = Ok done
finish (Action p) done = Err 0
finish (InHops p hs) done = Ok (put done p (Hops hs))
finish Behind done = Ok done
finish Next done = Err 0

-- on from the next place, or the fault of the word
abbrev pub items_on : Option (Place × List (Cidr × Via)) → (Place → List (Cidr × Via) → Result (List (Cidr × Via)) ℕ) → ℕ → Result (List (Cidr × Via)) ℕ
items_on None more left = Err (suc left)
items_on (Some s) more left = more s.0 s.1

-- the items from a place on, to the end of the line
abbrev pub items_run : Place → List (Cidr × Via) → List (List ℕ) → Result (List (Cidr × Via)) ℕ
items_run place done [] = finish place done
items_run place done (w ∷ ws) = items_on (step place done w) (λ p d. items_run p d ws) (length ws)

-- The acts, each behind its two keywords.

unfoldable pub vlan_add_at : List (List ℕ) → Result Act ℕ
vlan_add_at = one (number_of 1 4094) (λ v. one vlan_name_of (λ n. ended (VlanAdd v n)))

unfoldable pub vlan_del_at : List (List ℕ) → Result Act ℕ
vlan_del_at = one (number_of 1 4094) (λ v. ended (VlanDel v))

unfoldable pub port_add_at : List (List ℕ) → Result Act ℕ
port_add_at = one (number_of 1 1024) (λ p. one (number_of 1 4094) (λ v. ended (PortAdd p v)))

unfoldable pub port_del_at : List (List ℕ) → Result Act ℕ
port_del_at = one (number_of 1 1024) (λ p. ended (PortDel p))

unfoldable pub port_vlan_at : List (List ℕ) → Result Act ℕ
port_vlan_at = one (number_of 1 1024) (λ p. one (number_of 1 4094) (λ v. ended (PortVlan p v)))

unfoldable pub port_up_at : List (List ℕ) → Result Act ℕ
port_up_at = one (number_of 1 1024) (λ p. ended (PortUp p))

unfoldable pub port_down_at : List (List ℕ) → Result Act ℕ
port_down_at = one (number_of 1 1024) (λ p. ended (PortDown p))

unfoldable pub intf_add_at : List (List ℕ) → Result Act ℕ
intf_add_at = one (number_of 1 4294967295) (λ i. one (number_of 1 4094) (λ v. one (number_of 0 65535) (λ n. one mac_of (λ m. ended (IntfAdd i v n m)))))

unfoldable pub intf_del_at : List (List ℕ) → Result Act ℕ
intf_del_at = one (number_of 1 4294967295) (λ i. ended (IntfDel i))

unfoldable pub addr_add_at : List (List ℕ) → Result Act ℕ
addr_add_at = one (number_of 1 4294967295) (λ i. one addr_of (λ a. ended (AddrAdd i a)))

unfoldable pub addr_del_at : List (List ℕ) → Result Act ℕ
addr_del_at = one (number_of 1 4294967295) (λ i. one addr_of (λ a. ended (AddrDel i a)))

unfoldable pub neighbor_set_at : List (List ℕ) → Result Act ℕ
neighbor_set_at = one (number_of 1 4294967295) (λ i. one ip_of (λ a. one mac_of (λ m. one (number_of 1 1024) (λ p. ended (NeighborSet i a m p)))))

unfoldable pub neighbor_pending_at : List (List ℕ) → Result Act ℕ
neighbor_pending_at = one (number_of 1 4294967295) (λ i. one ip_of (λ a. ended (NeighborPending i a)))

unfoldable pub neighbor_del_at : List (List ℕ) → Result Act ℕ
neighbor_del_at = one (number_of 1 4294967295) (λ i. one ip_of (λ a. ended (NeighborDel i a)))

unfoldable pub mac_set_at : List (List ℕ) → Result Act ℕ
mac_set_at = one (number_of 1 4094) (λ v. one mac_of (λ m. one (number_of 1 1024) (λ p. ended (MacSet v m p))))

unfoldable pub mac_del_at : List (List ℕ) → Result Act ℕ
mac_del_at = one (number_of 1 4094) (λ v. one mac_of (λ m. ended (MacDel v m)))

unfoldable pub route_set_at : List (List ℕ) → Result Act ℕ
route_set_at = one (number_of 0 65535) (λ n. one prefix_of (λ p. one client_of (λ c. turned (RouteSet n p c) via_at)))

unfoldable pub route_del_at : List (List ℕ) → Result Act ℕ
route_del_at = one (number_of 0 65535) (λ n. one prefix_of (λ p. one client_of (λ c. ended (RouteDel n p c))))

unfoldable pub client_sync_at : List (List ℕ) → Result Act ℕ
client_sync_at = one (number_of 0 65535) (λ n. one client_of (λ c. turned (ClientSync n c) (items_run First [])))

-- The acts behind their first keyword.

unfoldable pub vlan_at : List (List ℕ) → Result Act ℕ
vlan_at = choose (codes "add") vlan_add_at (choose (codes "del") vlan_del_at bad)

unfoldable pub port_at : List (List ℕ) → Result Act ℕ
port_at = choose (codes "add") port_add_at (choose (codes "del") port_del_at (choose (codes "vlan") port_vlan_at (choose (codes "up") port_up_at (choose (codes "down") port_down_at bad))))

unfoldable pub intf_at : List (List ℕ) → Result Act ℕ
intf_at = choose (codes "add") intf_add_at (choose (codes "del") intf_del_at bad)

unfoldable pub addr_at : List (List ℕ) → Result Act ℕ
addr_at = choose (codes "add") addr_add_at (choose (codes "del") addr_del_at bad)

unfoldable pub neighbor_at : List (List ℕ) → Result Act ℕ
neighbor_at = choose (codes "set") neighbor_set_at (choose (codes "pending") neighbor_pending_at (choose (codes "del") neighbor_del_at bad))

unfoldable pub mac_at : List (List ℕ) → Result Act ℕ
mac_at = choose (codes "set") mac_set_at (choose (codes "del") mac_del_at bad)

unfoldable pub route_at : List (List ℕ) → Result Act ℕ
route_at = choose (codes "set") route_set_at (choose (codes "del") route_del_at bad)

unfoldable pub client_at : List (List ℕ) → Result Act ℕ
client_at = choose (codes "sync") client_sync_at bad

-- an act by its keywords, to the end of the line
unfoldable pub act_at : List (List ℕ) → Result Act ℕ
act_at =
    choose (codes "vlan") vlan_at (choose (codes "port") port_at (choose (codes "intf") intf_at (choose (codes "addr") addr_at
    (choose (codes "neighbor") neighbor_at (choose (codes "mac") mac_at (choose (codes "route") route_at (choose (codes "client") client_at bad)))))))

-- an act with or without its mark
abbrev pub update_of : Bool → Act → Update
update_of alone act = record { alone = alone; act = act }

unfoldable pub update_at : List (List ℕ) → Result Update ℕ
update_at = choose (codes "alone") (turned (update_of true) act_at) (turned (update_of false) act_at)

unfoldable pub query_at : List (List ℕ) → Result Query ℕ
query_at =
    choose (codes "version") (ended queries.Version) (choose (codes "counts") (ended queries.Counts)
    (choose (codes "port") (one (number_of 1 1024) (λ p. ended (queries.Port p))) (choose (codes "route") (one (number_of 0 65535) (λ n. one ip_of (λ a. ended (queries.Route n a)))) bad)))

-- what a caller does, to the end of the line
unfoldable pub job_at : List (List ℕ) → Result Job ℕ
job_at =
    choose (codes "settle") (ended Settle) (choose (codes "pump") (ended Pump) (choose (codes "peek") (ended Peek) (choose (codes "tables") (ended Tables)
    (choose (codes "show") (turned Show query_at) (choose (codes "queue") (turned (Submit true) update_at) (turned (Submit false) update_at))))))

-- a line of that number
abbrev pub line_of : ℕ → ℕ → Job → Line
line_of n caller job = record { line = n; caller = caller; job = job }

unfoldable pub line_at : ℕ → ℕ → List (List ℕ) → Result Line ℕ
line_at callers n = one (number_of 0 (callers - 1)) (λ caller. turned (line_of n caller) job_at)

-- the capacities of the l2, host, group and route table
abbrev pub caps_of : ℕ → ℕ → ℕ → ℕ → Caps
caps_of l2 host group route = record { l2 = l2; host = host; group = group; route = route }

unfoldable pub caps_at : List (List ℕ) → Result Caps ℕ
caps_at = one (number_of 0 65536) (λ l. one (number_of 0 65536) (λ h. one (number_of 0 4096) (λ g. one (number_of 0 65536) (λ r. ended (caps_of l h g r)))))

unfoldable pub start_at : List (List ℕ) → Result Start ℕ
start_at = choose (codes "start") (choose (codes "cold") (turned Cold caps_at) (choose (codes "warm") (one name_of (λ n. ended (Warm n))) bad)) bad

unfoldable pub limit_at : List (List ℕ) → Result ℕ ℕ
limit_at = choose (codes "limit") (one (number_of 1 1000000) (λ n. ended n)) bad

unfoldable pub callers_at : List (List ℕ) → Result ℕ ℕ
callers_at = choose (codes "callers") (one (number_of 1 16) (λ n. ended n)) bad

-- a phase begins, or the other reader reads
unfoldable pub phase_or : (List (List ℕ) → Result Entry ℕ) → List (List ℕ) → Result Entry ℕ
phase_or = choose (codes "phase") (ended NewPhase)

-- a base line may stand after a cold start alone
unfoldable pub base_at : Bool → ℕ → List (List ℕ) → Result Entry ℕ
base_at true n = choose (codes "base") (turned (Bases n) act_at) bad
base_at false n = bad

-- the line of that number at a stage
unfoldable pub entry_at : Stage → ℕ → List (List ℕ) → Result Entry ℕ
entry_at Opening n = turned Starts start_at
entry_at (Started cold) n = turned Limits limit_at
entry_at (Limited cold) n = turned Calls callers_at
entry_at (Called cold c) n = phase_or (base_at cold n)
entry_at (InPhase c) n = phase_or (turned Does (line_at c n))
