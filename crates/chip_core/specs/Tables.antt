-- One table of the chip in memory.
use Rattle.std.specs.Prelude.{◌≤◌, ◌<◌, ℕ, All, IsSome, List, length, nat_eq}
use Rattle.std.specs.List.{IsDistinct}
use Rattle.std.specs.Ordering.{nat_cmp}
use Rattle.std.specs.declared.cmp.Ordering.{Ordering}
use Rattle.keyed.specs.Keyed.{at, Ascends}
use Rattle.keyed.specs.Named.{AreDistinct}
use Rattle.keyed.specs.Props.{AreDistinct-prop, Ascends-prop}
use Rattle.std.specs.Coded.{le_prop}
use Rattle.net_types.specs.Groups.{IsGroupLength}
use Rattle.net_types.specs.KeyOrder.{l2_cmp, route_cmp}
use Rattle.net_types.specs.declared.table.Caps.{Caps}
use Rattle.net_types.specs.declared.table.Tables.{Tables}
use Rattle.sorted_table.specs.Rows.{IsSorted}
use Rattle.net_types.specs.declared.group.Member.{Member}
use Rattle.net_types.specs.declared.table.RouteKey.{RouteKey}
use Rattle.net_types.specs.declared.table.RouteRow.{RouteRow}
use Rattle.chip_core.specs.References.{IsRouteHeld}
use Rattle.chip_core.specs.Sim.{tables_of, targets}
use Rattle.chip_core.specs.Slots.{Groups, host_entries, hosts_of}
use Rattle.chip_core.specs.SlotsLaws.{Entries}

-- a table by slot: slots ascend and lie below the capacity, and names are distinct
pub record IsSlotted {N V : Type 0} (cmp : N → N → Ordering) (name : V → N) (capacity : ℕ) (rows : List (ℕ × V)) : Type 0 where
  pub ascends : Ascends nat_cmp rows
  pub distinct : AreDistinct cmp name rows
  pub fits : length rows ≤ capacity
  pub below : (slot : ℕ) → IsSome (at nat_cmp slot rows) → slot < capacity

pub IsSlotted-prop : {N V : Type 0} (cmp : N → N → Ordering) (name : V → N) (capacity : ℕ) (rows : List (ℕ × V)) → IsProp (IsSlotted cmp name capacity rows)
IsSlotted-prop cmp name capacity rows = λ a b i. record {
  ascends = Ascends-prop nat_cmp rows a.ascends b.ascends i;
  distinct = AreDistinct-prop cmp name rows a.distinct b.distinct i;
  fits = le_prop a.fits b.fits i;
  below = λ slot there. le_prop (a.below slot there) (b.below slot there) i;
}

-- a group has 2 to 64 members, and names no host twice
pub record IsGroupRow (members : List Member) : Type 0 where
  pub long : IsGroupLength (length members)
  pub once : IsDistinct nat_eq (hosts_of members)

-- each member's host is there
abbrev pub MembersHeld : Entries → Groups → Type 0
MembersHeld hosts groups = All (λ group. All (λ member. IsSome (at nat_cmp member.host hosts)) group.1) groups

-- what each route leads to is there
abbrev pub RoutesHeld : Entries → Groups → List (RouteKey × RouteRow) → Type 0
RoutesHeld hosts groups routes = All (λ route. IsRouteHeld (tables_of (targets hosts groups)) route.1) routes

-- slots ascend and lie below the capacity, so that they are no more than it
pub record AreSlots {V : Type 0} (capacity : ℕ) (rows : List (ℕ × V)) : Type 0 where
  pub ascends : Ascends nat_cmp rows
  pub fits : length rows ≤ capacity
  pub below : (slot : ℕ) → IsSome (at nat_cmp slot rows) → slot < capacity

-- rows ascend by key or by slot, and have room
pub record AreInOrder (caps : Caps) (tables : Tables) : Type 0 where
  pub l2 : IsSorted l2_cmp caps.l2 tables.l2
  pub host : AreSlots caps.host (host_entries tables.host)
  pub group : AreSlots caps.group tables.group
  pub route : IsSorted route_cmp caps.route tables.route
