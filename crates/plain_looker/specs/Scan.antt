-- What scans of interfaces and routes look for.
use Rattle.std.specs.Prelude.{ℕ, Option, None, Some, List, map}
use Rattle.std.specs.Ordering.{nat_cmp, ordering_then}
use Rattle.std.specs.declared.cmp.Ordering.{Ordering}
use Rattle.net_types.specs.declared.table.RouteKey.{RouteKey}
use Rattle.net_types.specs.Cidr.{Cidr}
use Rattle.net_types.specs.KeyOrder.{route_cmp}
use Rattle.switch_model.specs.declared.key.RibKey.{RibKey}
use Rattle.switch_model.specs.declared.record.RouteRec.{RouteRec}
use Rattle.switch_model.specs.Addresses.{subnets}
use Rattle.switch_model.specs.BestRoute.{nearer}

-- the longest prefix first
abbrev pub longest_cmp : RouteKey → RouteKey → Ordering
longest_cmp a b = ordering_then (nat_cmp b.prefix.len a.prefix.len) (route_cmp a b)

abbrev pub key_in : ℕ → Cidr → RouteKey
key_in vrf prefix = record { vrf = vrf; prefix = prefix }

-- the subnets of addresses, in a VRF
abbrev pub subnet_keys : ℕ → List Cidr → List RouteKey
subnet_keys vrf addrs = map (key_in vrf) (subnets addrs)

-- the nearer of the route that was found, if there is one, and another
abbrev pub nearer_or : Option (RibKey × RouteRec) → RibKey × RouteRec → Option (RibKey × RouteRec)
nearer_or None e = Some e
nearer_or (Some a) e = Some (nearer a e)
