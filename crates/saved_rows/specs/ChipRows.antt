-- The rows of the chip's tables, as a saved text has them.
use Rattle.std.specs.Prelude.{◌⊎◌, ℕ, Bool, List, codes, Option, option_map}
use Rattle.std.proofs.Common.{inl, inr}
use Rattle.std.specs.Ordering.{nat_cmp}
use Rattle.std.specs.List.{AllByRecursion}
use Rattle.std.specs.declared.cmp.Ordering.{Ordering}
use Rattle.std.specs.declared.cmp.Ordering.TheVariants.{Less}
use Rattle.serde_json.specs.Data.{Data, boolean}
use Rattle.serde_json.specs.Find.{as_bool}
use Rattle.net_types.specs.declared.group.Member.{Member}
use Rattle.net_types.specs.declared.table.HostAct.{HostAct}
use Rattle.net_types.specs.declared.table.HostAct.TheVariants.{Forward, Trap}
use Rattle.net_types.specs.declared.table.HostKey.{HostKey}
use Rattle.net_types.specs.declared.table.HostRow.{HostRow}
use Rattle.net_types.specs.declared.table.L2Key.{L2Key}
use Rattle.net_types.specs.declared.table.L2Row.{L2Row}
use Rattle.net_types.specs.declared.table.RouteKey.{RouteKey}
use Rattle.net_types.specs.declared.table.RouteRow.{RouteRow}
use Rattle.net_types.specs.declared.table.RouteRow.TheVariants.{Host, Group, ToCpu, Discard}
use Rattle.net_types.specs.Cidr.{Cidr}
use Rattle.json_form.specs.Arrays.{either_of, pair_json, pair_of, quad_json, quad_of, quint_json, quint_of, single_json, single_of, triple_json, triple_of, word_of}
use Rattle.json_form.specs.Lists.{rows_json, rows_of}
use Rattle.net_types.specs.declared.ip.Ip.{Ip}
use Rattle.saved_rows.specs.Values.{IsIntf, IsIpText, IsMacText, IsPort, IsPrefixText, IsSlot, IsVlan, IsVrf, intf_number_of, ip_in, ip_json, mac_in, mac_json, number_json, port_number_of, prefix_in, prefix_json, slot_of, vlan_number_of, vrf_of, word_json}

-- `[vlan, "MAC", port, up]`
abbrev pub l2_json : L2Key × L2Row → Data
l2_json e = quad_json number_json mac_json number_json boolean (e.0.vlan, e.0.mac, e.1.port, e.1.up)

abbrev pub IsL2 : L2Key × L2Row → Type 0
IsL2 e = IsVlan e.0.vlan × IsMacText e.0.mac × IsPort e.1.port × Unit {0}

-- `["forward", "MAC", port, up]`, or `["trap"]`
abbrev pub act_json : HostAct → Data
act_json (Forward mac port up) = quad_json (word_json (codes "forward")) mac_json number_json boolean (tt, mac, port, up)
act_json Trap = single_json (word_json (codes "trap")) tt

abbrev pub IsAct : HostAct → Type 0
IsAct (Forward mac port up) = Unit {0} × IsMacText mac × IsPort port × Unit {0}
IsAct Trap = Unit {0}

-- `[slot, "IP", intf, vrf, ACT]`
abbrev pub host_json : ℕ × HostKey × HostRow → Data
host_json e = quint_json number_json ip_json number_json number_json act_json (e.0, e.1.ip, e.1.intf, e.2.vrf, e.2.act)

abbrev pub IsHost : ℕ × HostKey × HostRow → Type 0
IsHost e = IsSlot e.0 × IsIpText e.1.ip × IsIntf e.1.intf × IsVrf e.2.vrf × IsAct e.2.act

-- `[host slot, live]`
abbrev pub member_json : Member → Data
member_json m = pair_json number_json boolean (m.host, m.live)

abbrev pub IsMember : Member → Type 0
IsMember m = IsSlot m.host × Unit {0}

-- `[slot, [[host slot, live], ..]]`
abbrev pub group_json : ℕ × List Member → Data
group_json e = pair_json number_json (rows_json member_json) (e.0, e.1)

abbrev pub IsGroup : ℕ × List Member → Type 0
IsGroup e = IsSlot e.0 × AllByRecursion IsMember e.1

-- `["host", slot]`, `["group", slot]`, `["cpu"]` or `["drop"]`
abbrev pub target_json : RouteRow → Data
target_json (Host slot) = pair_json (word_json (codes "host")) number_json (tt, slot)
target_json (Group slot) = pair_json (word_json (codes "group")) number_json (tt, slot)
target_json ToCpu = single_json (word_json (codes "cpu")) tt
target_json Discard = single_json (word_json (codes "drop")) tt

abbrev pub IsTarget : RouteRow → Type 0
IsTarget (Host slot) = Unit {0} × IsSlot slot
IsTarget (Group slot) = Unit {0} × IsSlot slot
IsTarget ToCpu = Unit {0}
IsTarget Discard = Unit {0}

-- `[vrf, "PREFIX", TARGET]`
abbrev pub route_json : RouteKey × RouteRow → Data
route_json e = triple_json number_json prefix_json target_json (e.0.vrf, e.0.prefix, e.1)

abbrev pub IsRoute : RouteKey × RouteRow → Type 0
IsRoute e = IsVrf e.0.vrf × IsPrefixText e.0.prefix × IsTarget e.1

-- by the number that stands first
abbrev pub by_slot : {A : Type 0} → ℕ × A → ℕ × A → Ordering
by_slot x y = nat_cmp x.0 y.0

abbrev pub hosts_by_slot : ℕ × HostKey × HostRow → ℕ × HostKey × HostRow → Ordering
hosts_by_slot x y = nat_cmp x.0 y.0

-- members stand in any order
abbrev pub in_any_order : Member → Member → Ordering
in_any_order x y = Less

-- ---- read

abbrev pub l2_row : ℕ × ℕ × ℕ × Bool → L2Key × L2Row
l2_row p = (record { vlan = p.0; mac = p.1 }, record { port = p.2; up = p.3 })

abbrev pub l2_of : Data → Option (L2Key × L2Row)
l2_of d = option_map l2_row (quad_of vlan_number_of mac_in port_number_of as_bool d)

abbrev pub Acts : Type 0
Acts = (Unit {0} × ℕ × ℕ × Bool) ⊎ Unit {0}

abbrev pub forwards : Unit {0} × ℕ × ℕ × Bool → HostAct
forwards p = Forward p.1 p.2 p.3

abbrev pub act_row : Acts → HostAct
act_row (inl p) = forwards p
act_row (inr p) = Trap

abbrev pub forward_of : Data → Option (Unit {0} × ℕ × ℕ × Bool)
forward_of = quad_of (word_of (codes "forward")) mac_in port_number_of as_bool

abbrev pub trap_of : Data → Option (Unit {0})
trap_of = single_of (word_of (codes "trap"))

abbrev pub act_of : Data → Option HostAct
act_of d = option_map act_row (either_of forward_of trap_of d)

abbrev pub host_row : ℕ × Ip × ℕ × ℕ × HostAct → ℕ × HostKey × HostRow
host_row p = (p.0, record { ip = p.1; intf = p.2 }, record { vrf = p.3; act = p.4 })

abbrev pub host_of : Data → Option (ℕ × HostKey × HostRow)
host_of d = option_map host_row (quint_of slot_of ip_in intf_number_of vrf_of act_of d)

abbrev pub member_row : ℕ × Bool → Member
member_row p = record { host = p.0; live = p.1 }

abbrev pub member_of : Data → Option Member
member_of d = option_map member_row (pair_of slot_of as_bool d)

abbrev pub group_of : Data → Option (ℕ × List Member)
group_of = pair_of slot_of (rows_of member_of in_any_order)

abbrev pub Targets : Type 0
Targets = (Unit {0} × ℕ) ⊎ ((Unit {0} × ℕ) ⊎ (Unit {0} ⊎ Unit {0}))

abbrev pub target_row : Targets → RouteRow
target_row (inl p) = Host p.1
target_row (inr (inl p)) = Group p.1
target_row (inr (inr (inl p))) = ToCpu
target_row (inr (inr (inr p))) = Discard

abbrev pub behind_word : List ℕ → Data → Option (Unit {0} × ℕ)
behind_word word = pair_of (word_of word) slot_of

abbrev pub alone : List ℕ → Data → Option (Unit {0})
alone word = single_of (word_of word)

abbrev pub target_of : Data → Option RouteRow
target_of d = option_map target_row (either_of (behind_word (codes "host")) (either_of (behind_word (codes "group")) (either_of (alone (codes "cpu")) (alone (codes "drop")))) d)

abbrev pub route_row : ℕ × Cidr × RouteRow → RouteKey × RouteRow
route_row p = (record { vrf = p.0; prefix = p.1 }, p.2)

abbrev pub route_of : Data → Option (RouteKey × RouteRow)
route_of d = option_map route_row (triple_of vrf_of prefix_in target_of d)
