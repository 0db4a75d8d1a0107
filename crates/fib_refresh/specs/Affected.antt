-- The keys whose entries a change may touch.
use Rattle.std.specs.Prelude.{◌≡◌, ◌⊎◌, ◌&&◌, ◌↔◌, ◌==◌, ℕ, Bool, true, false, Option, None, Some, List, [], ◌∷◌, is_none, is_some}
use Rattle.std.specs.List.{Contains, list_any}
use Rattle.net_types.specs.declared.hop.Hop.{Hop}
use Rattle.net_types.specs.declared.table.RouteKey.{RouteKey}
use Rattle.switch_model.specs.declared.key.RibKey.{RibKey}
use Rattle.switch_model.specs.declared.record.RouteRec.{RouteRec}
use Rattle.switch_model.specs.declared.record.RouteRec.TheVariants.{Hops}
use Rattle.route_laws.specs.Descent.{longest_key}
use Rattle.rib_lookup.specs.Tables.{key_of_rib}
use Rattle.fib_refresh.specs.declared.affected.Level.{Level}

-- the hops of a route, where it has any
abbrev pub hops_of : RouteRec → List Hop
hops_of (Hops hops) = hops
hops_of _ = []

-- the hop names no interface, and its ip lies in one of the keys of the VRF
abbrev pub lies_in : List RouteKey → ℕ → Hop → Bool
lies_in keys vrf hop = is_none hop.intf && is_some (longest_key vrf hop.ip keys)

-- a hop of the route lies in one of the keys
abbrev pub has_hop_in : List RouteKey → RibKey → RouteRec → Bool
has_hop_in keys key route = list_any (lies_in keys key.vrf) (hops_of route)

-- exactly the listed keys
pub record HasAll (listed keys : List RouteKey) : Type 0 where
  pub exact : (key : RouteKey) → Contains keys key ↔ Contains listed key

-- the keys have the changed ones and, with these and all others of them, the key of each route of which a hop lies in one
pub record IsClosed (routes : List (RibKey × RouteRec)) (changed keys : List RouteKey) : Type 0 where
  pub has : (key : RouteKey) → Contains changed key → Contains keys key
  pub closed : (e : RibKey × RouteRec) → Contains routes e → has_hop_in keys e.0 e.1 ≡ true → Contains keys (key_of_rib e.0)

-- one of the keys is new, and is that of a route
pub record HasCome (routes : List (RibKey × RouteRec)) (old new : List RouteKey) : Type 0 where
  pub route : RibKey × RouteRec
  pub among : Contains routes route
  pub here : Contains new (key_of_rib route.0)
  pub absent : Contains old (key_of_rib route.0) → ⊥

-- nothing changed, or a key came that is that of a route
pub record IsGrown (routes : List (RibKey × RouteRec)) (old new : Level) : Type 0 where
  pub kept : (key : RouteKey) → Contains old.keys key → Contains new.keys key
  pub same : (new ≡ old) ⊎ ((new.grew ≡ true) × HasCome routes old.keys new.keys)

-- the level has the route's key now, where a hop of the route lies in one of the keys
pub record IsScanned (keys : List RouteKey) (key : RibKey) (route : RouteRec) (old new : Level) : Type 0 where
  pub grown : IsGrown ((key, route) ∷ []) old new
  pub taken : has_hop_in keys key route ≡ true → Contains new.keys (key_of_rib key)

-- the level has now the key of each route of the VRF of which a hop lies in one of the keys
pub record IsVrfScanned (routes : List (RibKey × RouteRec)) (keys : List RouteKey) (vrf : ℕ) (old new : Level) : Type 0 where
  pub grown : IsGrown routes old new
  pub taken : (e : RibKey × RouteRec) → Contains routes e → e.0.vrf ≡ vrf → has_hop_in keys e.0 e.1 ≡ true → Contains new.keys (key_of_rib e.0)

-- whether the key is of the VRF
abbrev pub is_key_of : ℕ → Option RouteKey → Bool
is_key_of vrf None = false
is_key_of vrf (Some key) = key.vrf == vrf

-- the VRF was scanned, or is that of the last key, at which it was
abbrev pub IsVrfDone : List (RibKey × RouteRec) → List RouteKey → Option RouteKey → ℕ → Level → Level → Type 0
IsVrfDone routes keys last vrf old new = ((is_key_of vrf last ≡ true) × (new ≡ old)) ⊎ IsVrfScanned routes keys vrf old new

-- the keys grew by those of the routes of which a hop lies in one of the old keys; they grew exactly where one came
pub record IsLevel (routes : List (RibKey × RouteRec)) (old : List RouteKey) (new : Level) : Type 0 where
  pub kept : (key : RouteKey) → Contains old key → Contains new.keys key
  pub taken : (e : RibKey × RouteRec) → Contains routes e → has_hop_in old e.0 e.1 ≡ true → Contains new.keys (key_of_rib e.0)
  pub same : new.grew ≡ false → new.keys ≡ old
  pub came : new.grew ≡ true → HasCome routes old new.keys
