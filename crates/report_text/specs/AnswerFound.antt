-- What was found for a question, as it is printed.
use Rattle.std.specs.Prelude.{ℕ, Option, None, Some, List, [], ◌++◌, codes}
use Rattle.answer_forms.specs.AnswerText.{fib_text, port_text, totals_text}
use Rattle.ip_text.specs.Printed.{prefix_text}
use Rattle.net_types.specs.Cidr.{Cidr}
use Rattle.net_types.specs.declared.client.Client.{Client}
use Rattle.net_types.specs.declared.client.Client.TheVariants.{Interface}
use Rattle.report_text.specs.declared.answers.Found.{Found}
use Rattle.report_text.specs.declared.answers.Found.TheVariants as found
use Rattle.report_text.specs.declared.answers.RouteFound.{RouteFound}
use Rattle.script_text.specs.UpdateText.{client_text}
use Rattle.switch_model.specs.BestRoute.{BestRoute, connected, learnt}
use Rattle.switch_model.specs.Fib.{fib}
use Rattle.switch_model.specs.LongestMatch.{longest_match}
use Rattle.switch_model.specs.PlainState.{PlainState, Rib, port_at, rib}
use Rattle.switch_model.specs.Totals.{totals}
use Rattle.switch_model.specs.declared.query.Query.{Query}
use Rattle.switch_model.specs.declared.query.Query.TheVariants.{Version, Counts, Port, Route}

-- a match, whose it is, and what becomes of packets to it
abbrev pub route_text : RouteFound → List ℕ
route_text f = codes "route " ++ (prefix_text f.prefix ++ (codes " " ++ (client_text f.client ++ (codes " " ++ fib_text f.entry))))

-- the words behind where an answer stands
abbrev pub found_text : Found → List ℕ
found_text found.Version = []
found_text (found.Counts counts) = codes " " ++ totals_text counts
found_text (found.Port port there) = codes " " ++ port_text port there
found_text (found.Route None) = codes " route none"
found_text (found.Route (Some f)) = codes " " ++ route_text f

-- whose route it is: a subnet is an interface's
abbrev pub client_of : BestRoute → Client
client_of (connected intf) = Interface
client_of (learnt client route) = client

abbrev pub found_match : Rib → ℕ → Option (Cidr × BestRoute) → Option RouteFound
found_match r vrf None = None
found_match r vrf (Some m) = Some (record { prefix = m.0; client = client_of m.1; entry = fib r vrf m.0 })

-- what a state has for a question
abbrev pub found_in : PlainState → Query → Found
found_in m Version = found.Version
found_in m Counts = found.Counts (totals m)
found_in m (Port port) = found.Port port (port_at m port)
found_in m (Route vrf ip) = found.Route (found_match (rib m) vrf (longest_match (rib m) vrf ip))
