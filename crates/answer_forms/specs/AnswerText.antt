-- Answers about a state, as they are printed.
use Rattle.std.specs.Prelude.{ℕ, Option, None, Some, List, [], ◌++◌, length, codes, if◌then◌else◌}
use Rattle.std.specs.Fmt.{decimal}
use Rattle.ip_text.specs.Printed.{prefix_text}
use Rattle.net_types.specs.Cidr.{Cidr}
use Rattle.script_text.specs.UpdateText.{client_text, hops_text}
use Rattle.switch_model.specs.BestRoute.{BestRoute, connected, learnt}
use Rattle.switch_model.specs.Fib.{fib}
use Rattle.switch_model.specs.LongestMatch.{longest_match}
use Rattle.switch_model.specs.PlainState.{PlainState, Rib, port_at, rib}
use Rattle.switch_model.specs.Rows.{rows}
use Rattle.switch_model.specs.Totals.{totals}
use Rattle.switch_model.specs.declared.query.Query.{Query}
use Rattle.switch_model.specs.declared.query.Query.TheVariants.{Version, Counts, Port, Route}
use Rattle.switch_model.specs.declared.record.FibEntry.{FibEntry}
use Rattle.switch_model.specs.declared.record.FibEntry.TheVariants.{Connected, Forward, ToCpu, Discard}
use Rattle.switch_model.specs.declared.record.PortRec.{PortRec}
use Rattle.switch_model.specs.declared.record.Totals.{Totals}

-- where the answer stands: how many entries of the journal it rests on, and the version after them
abbrev pub standing_text : ℕ → ℕ → List ℕ
standing_text version front = codes "front " ++ (decimal front ++ (codes " version " ++ decimal version))

-- the counts of a state
abbrev pub totals_text : Totals → List ℕ
totals_text t =
    codes "ports " ++ (decimal t.ports ++ (codes " up " ++ (decimal t.up ++ (codes " vlans " ++ (decimal t.vlans ++ (codes " intfs " ++ (decimal t.intfs
    ++ (codes " macs " ++ (decimal t.macs ++ (codes " neighbors " ++ (decimal t.neighbors ++ (codes " routes " ++ (decimal t.routes ++ (codes " fib " ++ decimal t.fib))))))))))))))

-- how many rows each table has
abbrev pub counts_text : ℕ → ℕ → ℕ → ℕ → List ℕ
counts_text l2 host group route = codes "l2 " ++ (decimal l2 ++ (codes " host " ++ (decimal host ++ (codes " group " ++ (decimal group ++ (codes " route " ++ decimal route))))))

-- a port's VLAN, and whether it is up
abbrev pub port_text : ℕ → Option PortRec → List ℕ
port_text port None = codes "port " ++ (decimal port ++ codes " none")
port_text port (Some record_of) = codes "port " ++ (decimal port ++ (codes " vlan " ++ (decimal record_of.vlan ++ (if record_of.up then codes " up" else codes " down"))))

-- whose route it is: a subnet of an interface, or a client's
abbrev pub source_text : BestRoute → List ℕ
source_text (connected intf) = codes "interface"
source_text (learnt client route) = client_text client

-- what becomes of packets, with all direct hops
abbrev pub fib_text : Option FibEntry → List ℕ
fib_text None = codes "none"
fib_text (Some (Connected intf)) = codes "connected"
fib_text (Some (Forward hops)) = codes "to" ++ hops_text hops
fib_text (Some ToCpu) = codes "cpu"
fib_text (Some Discard) = codes "drop"

-- the longest match, whose it is, and what becomes of packets to it
abbrev pub match_text : Rib → ℕ → Option (Cidr × BestRoute) → List ℕ
match_text r vrf None = codes "route none"
match_text r vrf (Some found) = codes "route " ++ (prefix_text found.0 ++ (codes " " ++ (source_text found.1 ++ (codes " " ++ fib_text (fib r vrf found.0)))))

-- the words behind where the answer stands
abbrev pub query_text : PlainState → Query → List ℕ
query_text m Version = []
query_text m Counts = codes " " ++ totals_text (totals m)
query_text m (Port port) = codes " " ++ port_text port (port_at m port)
query_text m (Route vrf ip) = codes " " ++ match_text (rib m) vrf (longest_match (rib m) vrf ip)

-- the answer to a question, of a state with its version and the front that it rests on
abbrev pub answer_text : Query → PlainState → ℕ → ℕ → List ℕ
answer_text query m version front = standing_text version front ++ query_text m query

-- the answer to a line that asks for the chip's tables
abbrev pub tables_text : PlainState → ℕ → ℕ → List ℕ
tables_text m version front =
    let all = rows m in standing_text version front ++ (codes " " ++ counts_text (length all.l2) (length all.host) (length all.group) (length all.route))
