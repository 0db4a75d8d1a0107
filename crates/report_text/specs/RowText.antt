-- The chip's rows as they are printed.
use Rattle.std.specs.Prelude.{ℕ, ◌+◌, Bool, List, [], ◌∷◌, ◌++◌, codes, length, if◌then◌else◌}
use Rattle.std.specs.Fmt.{decimal}
use Rattle.std.specs.Ordering.{is_lt}
use Rattle.std.specs.declared.cmp.Ordering.{Ordering}
use Rattle.answer_forms.specs.AnswerText.{counts_text}
use Rattle.ip_text.specs.Printed.{hop_text, mac_text, prefix_text}
use Rattle.net_types.specs.KeyOrder.{group_cmp}
use Rattle.net_types.specs.Rows.{Rows}
use Rattle.net_types.specs.declared.table.HopTarget.{HopTarget}
use Rattle.net_types.specs.declared.table.HopTarget.TheVariants.{Host, Group, ToCpu, Discard}
use Rattle.net_types.specs.declared.table.HostAct.{HostAct}
use Rattle.net_types.specs.declared.table.HostAct.TheVariants.{Forward, Trap}
use Rattle.net_types.specs.declared.table.HostKey.{HostKey}
use Rattle.net_types.specs.declared.table.HostRow.{HostRow}
use Rattle.net_types.specs.declared.table.L2Key.{L2Key}
use Rattle.net_types.specs.declared.table.L2Row.{L2Row}
use Rattle.net_types.specs.declared.table.RouteKey.{RouteKey}
use Rattle.switch_model.specs.Fib.{hop_of_host}

abbrev pub up_text : Bool → List ℕ
up_text up = if up then codes "up" else codes "down"

-- a host's ip and its interface
abbrev pub host_text : HostKey → List ℕ
host_text host = hop_text (hop_of_host host)

-- a line for each row of the l2 table
abbrev pub l2_text : List (L2Key × L2Row) → List ℕ
l2_text [] = []
l2_text (e ∷ es) =
    codes "l2 " ++ (decimal e.0.vlan ++ (codes " " ++ (mac_text e.0.mac ++ (codes " port " ++ (decimal e.1.port ++ (codes " " ++ (up_text e.1.up ++ (codes "\n" ++ l2_text es))))))))

-- what becomes of packets to a host
abbrev pub host_act_text : HostAct → List ℕ
host_act_text (Forward mac port up) = codes "forward " ++ (mac_text mac ++ (codes " port " ++ (decimal port ++ (codes " " ++ up_text up))))
host_act_text Trap = codes "trap"

-- a line for each row of the host table
abbrev pub hosts_text : List (HostKey × HostRow) → List ℕ
hosts_text [] = []
hosts_text (e ∷ es) = codes "host " ++ (host_text e.0 ++ (codes " vrf " ++ (decimal e.1.vrf ++ (codes " " ++ (host_act_text e.1.act ++ (codes "\n" ++ hosts_text es))))))

abbrev pub mark_text : Bool → List ℕ
mark_text live = if live then codes "live" else codes "dead"

-- hosts in their order, each with its mark
abbrev pub members_text : List HostKey → List Bool → List ℕ
members_text [] marks = []
members_text (host ∷ hosts) [] = []
members_text (host ∷ hosts) (live ∷ marks) = codes " " ++ (host_text host ++ (codes " " ++ (mark_text live ++ members_text hosts marks)))

-- a line for each row of the group table
abbrev pub groups_text : List (List HostKey × List Bool) → List ℕ
groups_text [] = []
groups_text (e ∷ es) = codes "group" ++ (members_text e.0 e.1 ++ (codes "\n" ++ groups_text es))

-- how many entries of a list have a lower key
abbrev pub lower_than : {K V : Type 0} → (K → K → Ordering) → K → List (K × V) → ℕ
lower_than cmp k [] = 0
lower_than cmp k (e ∷ es) = (if is_lt (cmp e.0 k) then 1 else 0) + lower_than cmp k es

-- the place of a group among the printed ones: how many stand before it
abbrev pub group_place : List HostKey → List (List HostKey × List Bool) → ℕ
group_place hosts groups = lower_than group_cmp hosts groups

-- where packets to a prefix go
abbrev pub target_text : List (List HostKey × List Bool) → HopTarget → List ℕ
target_text groups (Host host) = codes "host " ++ host_text host
target_text groups (Group hosts) = codes "group " ++ decimal (group_place hosts groups)
target_text groups ToCpu = codes "cpu"
target_text groups Discard = codes "drop"

-- a line for each row of the route table
abbrev pub routes_text : List (List HostKey × List Bool) → List (RouteKey × HopTarget) → List ℕ
routes_text groups [] = []
routes_text groups (e ∷ es) =
    codes "route " ++ (decimal e.0.vrf ++ (codes " " ++ (prefix_text e.0.prefix ++ (codes " " ++ (target_text groups e.1 ++ (codes "\n" ++ routes_text groups es))))))

-- the counts of the tables, and their rows
abbrev pub rows_text : Rows → List ℕ
rows_text rows = codes "tables " ++ (counts_text (length rows.l2) (length rows.host) (length rows.group) (length rows.route)
    ++ (codes "\n" ++ (l2_text rows.l2 ++ (hosts_text rows.host ++ (groups_text rows.group ++ routes_text rows.group rows.route)))))
