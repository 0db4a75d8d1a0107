-- The routes of one client in one VRF, put in step with a list.
use Rattle.std.specs.Prelude.{◌≡◌, ◌⊎◌, ℕ, ◌&&◌, not, Bool, Option, None, Some, List, [], ◌∷◌, Contains}
use Rattle.std.specs.List.{list_any}
use Rattle.std.specs.Ordering.{eq_by_cmp, nat_cmp}
use Rattle.keyed.specs.Keyed.{at, without}
use Rattle.net_types.specs.declared.client.Client.{Client}
use Rattle.net_types.specs.Cidr.{Cidr}
use Rattle.net_types.specs.KeyOrder.{prefix_cmp}
use Rattle.node_core.specs.Node.{NodeView}
use Rattle.node_map.specs.Map.{MapView}
use Rattle.switch_model.specs.declared.key.RibKey.{RibKey}
use Rattle.switch_model.specs.declared.record.RouteRec.{RouteRec}
use Rattle.switch_model.specs.Effect.{is_route_of}
use Rattle.switch_model.specs.StateKeys.{rib_cmp}
use Rattle.state_keys.specs.PartKeys.{rib_number, IsRib}

-- the route is the client's in the VRF, to a prefix that isn't listed
abbrev pub is_unlisted : ℕ → Client → List Cidr → RibKey → Bool
is_unlisted vrf client listed key = is_route_of vrf client key && not (list_any (eq_by_cmp prefix_cmp key.prefix) listed)

-- routes with none of the client's in the VRF to the prefixes
abbrev pub without_routes : ℕ → Client → List Cidr → List (RibKey × RouteRec) → List (RibKey × RouteRec)
without_routes vrf client [] routes = routes
without_routes vrf client (p ∷ ps) routes = without_routes vrf client ps (without rib_cmp (record { vrf = vrf; prefix = p; client = client }) routes)

-- the number is that of the client's route in the VRF to one of the prefixes
abbrev pub IsRouteNumber : ℕ → Client → List Cidr → ℕ → Type 0
IsRouteNumber vrf client prefixes n = (prefix : Cidr) × Contains prefixes prefix × IsRib (record { vrf = vrf; prefix = prefix; client = client }) × (rib_number (record { vrf = vrf; prefix = prefix; client = client }) ≡ n)

-- under each key stands what stood there; or nothing does, and the key is such
pub record Loses {T : Type 0} (Is : ℕ → Type 0) (old new : MapView T) : Type 0 where
  pub each : (key : ℕ) → (at nat_cmp key new.entries ≡ at nat_cmp key old.entries) ⊎ ((at nat_cmp key new.entries ≡ None) × Is key)

-- where a node was, there is one with its birth
abbrev pub BornAs : {T : Type 0} → Option (NodeView T) → Option (NodeView T) → Type 0
BornAs {T} old new = (was : NodeView T) → old ≡ Some was → (is : NodeView T) × (new ≡ Some is) × (is.born ≡ was.born)

-- under each key stands what stood there; or another value with the birth that stood there, and the key is such
pub record Renews {T : Type 0} (Is : ℕ → Type 0) (old new : MapView T) : Type 0 where
  pub each : (key : ℕ) → (at nat_cmp key new.entries ≡ at nat_cmp key old.entries) ⊎ (Is key × BornAs (at nat_cmp key old.entries) (at nat_cmp key new.entries))
