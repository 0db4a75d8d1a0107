-- The best route to a key, by its entries.
use Rattle.std.specs.Prelude.{◌≡◌, ◌≤◌, ℕ, true, false, IsSome, Option, None, Some}
use Rattle.net_types.specs.declared.client.Client.{Client}
use Rattle.net_types.specs.declared.table.RouteKey.{RouteKey}
use Rattle.net_types.specs.Clients.{client_distance}
use Rattle.switch_model.specs.declared.record.RouteRec.{RouteRec}
use Rattle.switch_model.specs.BestRoute.{BestRoute, connected, learnt}
use Rattle.switch_model.specs.PlainState.{Rib}
use Rattle.route_laws.specs.Entries.{connects, route_of}

-- the interface is the least of those that connect the key's prefix
pub record IsFirstConnected (rib : Rib) (key : RouteKey) (intf : ℕ) : Type 0 where
  pub there : connects rib key intf ≡ true
  pub first : (other : ℕ) → connects rib key other ≡ true → intf ≤ other

-- no interface connects the key's prefix, the client has that route to it, and no client with a route to it has less distance
pub record IsNearest (rib : Rib) (key : RouteKey) (client : Client) (route : RouteRec) : Type 0 where
  pub apart : (intf : ℕ) → connects rib key intf ≡ false
  pub there : route_of rib key client ≡ Some route
  pub nearest : (other : Client) → IsSome (route_of rib key other) → client_distance client ≤ client_distance other

-- no interface connects the key's prefix, and no client has a route to it
pub record IsNowhere (rib : Rib) (key : RouteKey) : Type 0 where
  pub apart : (intf : ℕ) → connects rib key intf ≡ false
  pub absent : (client : Client) → route_of rib key client ≡ None

-- the best route: by the first interface that connects the prefix, else the nearest client's, else none
abbrev pub IsBest : Rib → RouteKey → Option BestRoute → Type 0
IsBest rib key (Some (connected intf)) = IsFirstConnected rib key intf
IsBest rib key (Some (learnt client route)) = IsNearest rib key client route
IsBest rib key None = IsNowhere rib key
