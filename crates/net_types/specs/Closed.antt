-- Rows in which nothing is led to that isn't there.
use Rattle.std.specs.Prelude.{◌≡◌, Bool, Some, IsSome, List, length, All}
use Rattle.std.specs.List.Sorted.{IsStrictlySortedBy}
use Rattle.keyed.specs.Every.{Every}
use Rattle.keyed.specs.Keyed.{at, Each}
use Rattle.net_types.specs.Groups.{IsGroupLength}
use Rattle.net_types.specs.KeyOrder.{host_cmp, group_cmp, route_cmp}
use Rattle.net_types.specs.Rows.{Rows}
use Rattle.net_types.specs.declared.table.HopTarget.{HopTarget}
use Rattle.net_types.specs.declared.table.HopTarget.TheVariants.{Host, Group, ToCpu, Discard}
use Rattle.net_types.specs.declared.table.HostKey.{HostKey}

-- what a route leads to is a key of the rows
abbrev pub IsTargetKnown : Rows → HopTarget → Type 0
IsTargetKnown rows (Host key) = IsSome (at host_cmp key rows.host)
IsTargetKnown rows (Group keys) = IsSome (at group_cmp keys rows.group)
IsTargetKnown rows ToCpu = Unit {0}
IsTargetKnown rows Discard = Unit {0}

-- each host of a group, and each host or group that a route leads to, is a key of the rows
pub record IsClosed (rows : Rows) : Type 0 where
  pub group : (keys : List HostKey) (marks : List Bool) → at group_cmp keys rows.group ≡ Some marks → All (λ key. IsSome (at host_cmp key rows.host)) keys
  pub route : Each route_cmp (IsTargetKnown rows) rows.route

-- a group is of 2 to 64 hosts, which ascend, so that none stands twice, with a mark for each
pub record IsGroup (hosts : List HostKey) (marks : List Bool) : Type 0 where
  pub size : IsGroupLength (length hosts)
  pub ascends : IsStrictlySortedBy host_cmp hosts
  pub marked : length marks ≡ length hosts

-- each row of the group table is such a group
abbrev pub AreGroups : Rows → Type 0
AreGroups rows = Every group_cmp IsGroup rows.group
