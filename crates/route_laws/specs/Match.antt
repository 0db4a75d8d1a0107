-- The longest of the prefixes that contain an ip and have a best route.
use Rattle.std.specs.Prelude.{◌≡◌, ◌≤◌, ℕ, true, IsSome, Some}
use Rattle.std.specs.List.{Contains}
use Rattle.net_types.specs.declared.ip.Ip.{Ip}
use Rattle.net_types.specs.Cidr.{Cidr}
use Rattle.net_types.specs.Prefix.{IsAddr, IsPrefix, contains}
use Rattle.switch_model.specs.declared.key.RibKey.{RibKey}
use Rattle.switch_model.specs.declared.record.IntfRec.{IntfRec}
use Rattle.switch_model.specs.declared.record.RouteRec.{RouteRec}
use Rattle.switch_model.specs.BestRoute.{BestRoute, best}
use Rattle.switch_model.specs.PlainState.{Rib}

-- the prefix contains the ip and has that best route, and no other prefix that contains it and has a best route is longer
pub record IsLongestMatch (rib : Rib) (vrf : ℕ) (ip : Ip) (prefix : Cidr) (route : BestRoute) : Type 0 where
  pub inside : contains prefix ip ≡ true
  pub route_is : best rib vrf prefix ≡ Some route
  pub longest : (other : Cidr) → contains other ip ≡ true → IsSome (best rib vrf other) → other.len ≤ prefix.len

-- whatever has a best route is a prefix: its length is within the width of its ip, and no bit of the ip past the length is set
pub record ArePrefixes (rib : Rib) : Type 0 where
  pub prefixes : (vrf : ℕ) (prefix : Cidr) → IsSome (best rib vrf prefix) → IsPrefix prefix

-- each route is to a prefix, and the length of each address of an interface is within the width of its ip, as the types of both keep
pub record HavePrefixes (rib : Rib) : Type 0 where
  pub routes : (e : RibKey × RouteRec) → Contains rib.routes e → IsPrefix e.0.prefix
  pub addrs : (e : ℕ × IntfRec) (addr : Cidr) → Contains rib.intfs e → Contains e.1.addrs addr → IsAddr addr
