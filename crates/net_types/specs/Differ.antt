-- How many rows differ between two lists of rows.
use Rattle.std.specs.Prelude.{ℕ, ◌+◌, ◌==◌, ◌&&◌, Bool, true, false, length}
use Rattle.std.specs.Bool.{beq}
use Rattle.std.specs.Cmp.Lexicographic.{pointwise}
use Rattle.std.specs.Ordering.{eq_by_cmp}
use Rattle.keyed.specs.Differing.{differing_keys}
use Rattle.keyed.specs.Keyed.{Ascends}
use Rattle.net_types.specs.KeyOrder.{l2_cmp, host_cmp, group_cmp, route_cmp}
use Rattle.net_types.specs.Rows.{Rows}
use Rattle.net_types.specs.declared.table.HopTarget.{HopTarget}
use Rattle.net_types.specs.declared.table.HopTarget.TheVariants.{Host, Group, ToCpu, Discard}
use Rattle.net_types.specs.declared.table.HostAct.{HostAct}
use Rattle.net_types.specs.declared.table.HostAct.TheVariants.{Forward, Trap}
use Rattle.net_types.specs.declared.table.HostRow.{HostRow}
use Rattle.net_types.specs.declared.table.L2Row.{L2Row}

-- each table's rows ascend by key
pub record AscendRows (rows : Rows) : Type 0 where
  pub l2 : Ascends l2_cmp rows.l2
  pub host : Ascends host_cmp rows.host
  pub group : Ascends group_cmp rows.group
  pub route : Ascends route_cmp rows.route

-- whether two rows of the l2 table are the same
abbrev pub same_l2 : L2Row → L2Row → Bool
same_l2 a b = (a.port == b.port) && beq a.up b.up

-- whether packets to two hosts are treated alike
abbrev pub same_act : HostAct → HostAct → Bool
same_act (Forward mac port up) (Forward mac2 port2 up2) = (mac == mac2) && ((port == port2) && beq up up2)
same_act Trap Trap = true
same_act _ _ = false

-- whether two rows of the host table are the same
abbrev pub same_host : HostRow → HostRow → Bool
same_host a b = (a.vrf == b.vrf) && same_act a.act b.act

-- whether two routes lead to the same
abbrev pub same_target : HopTarget → HopTarget → Bool
same_target (Host a) (Host b) = eq_by_cmp host_cmp a b
same_target (Group a) (Group b) = eq_by_cmp group_cmp a b
same_target ToCpu ToCpu = true
same_target Discard Discard = true
same_target _ _ = false

-- how many keys, over all tables, have other rows in one than in the other
abbrev pub differ : Rows → Rows → ℕ
differ a b =
    length (differing_keys l2_cmp same_l2 a.l2 b.l2) + length (differing_keys host_cmp same_host a.host b.host)
    + length (differing_keys group_cmp (pointwise beq) a.group b.group) + length (differing_keys route_cmp same_target a.route b.route)
