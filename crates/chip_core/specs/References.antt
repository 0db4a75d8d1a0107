-- What rows of the chip lead to.
use Rattle.std.specs.Prelude.{◌≢◌, ℕ, IsSome, List, All}
use Rattle.std.specs.Ordering.{nat_cmp}
use Rattle.keyed.specs.Keyed.{at, Each}
use Rattle.net_types.specs.KeyOrder.{route_cmp}
use Rattle.net_types.specs.declared.group.Member.{Member}
use Rattle.net_types.specs.declared.table.RouteRow.{RouteRow}
use Rattle.net_types.specs.declared.table.RouteRow.TheVariants.{Host, Group, ToCpu, Discard}
use Rattle.net_types.specs.declared.table.Tables.{Tables}
use Rattle.chip_core.specs.Slots.{host_at}

-- each route of the chip has such a row
abbrev pub EachRoute : Tables → (RouteRow → Type 0) → Type 0
EachRoute raw Is = Each route_cmp Is raw.route

-- a host stands in the slot
abbrev pub IsHost : Tables → ℕ → Type 0
IsHost raw slot = IsSome (host_at slot raw.host)

-- a group stands in the slot
abbrev pub IsGroup : Tables → ℕ → Type 0
IsGroup raw slot = IsSome (at nat_cmp slot raw.group)

-- each member's host is there
abbrev pub AreMembersHeld : Tables → List Member → Type 0
AreMembersHeld raw members = All (λ m. IsHost raw m.host) members

-- what a route leads to is there
abbrev pub IsRouteHeld : Tables → RouteRow → Type 0
IsRouteHeld raw (Host slot) = IsHost raw slot
IsRouteHeld raw (Group slot) = IsGroup raw slot
IsRouteHeld raw ToCpu = Unit {0}
IsRouteHeld raw Discard = Unit {0}

-- no group and no route leads to the host in the slot
pub record IsUnusedHost (raw : Tables) (slot : ℕ) : Type 0 where
  pub group : Each nat_cmp (λ members. All (λ m. m.host ≢ slot) members) raw.group
  pub route : EachRoute raw (λ row. row ≢ Host slot)

-- no route leads to the group in the slot
abbrev pub IsUnusedGroup : Tables → ℕ → Type 0
IsUnusedGroup raw slot = EachRoute raw (λ row. row ≢ Group slot)
