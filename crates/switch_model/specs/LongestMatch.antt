-- The longest prefix that an ip matches.
use Rattle.std.specs.Prelude.{ℕ, ◌==◌, ◌&&◌, nat_lt, Option, List, ◌++◌, map, option_map, option_and_then, filter, flat_map, if◌then◌else◌}
use Rattle.std.specs.List.{reduce}
use Rattle.keyed.specs.Sets.{set_of}
use Rattle.net_types.specs.declared.ip.Ip.{Ip}
use Rattle.net_types.specs.declared.table.RouteKey.{RouteKey}
use Rattle.net_types.specs.Cidr.{Cidr}
use Rattle.net_types.specs.KeyOrder.{route_cmp}
use Rattle.net_types.specs.Prefix.{contains}
use Rattle.switch_model.specs.declared.key.RibKey.{RibKey}
use Rattle.switch_model.specs.declared.record.IntfRec.{IntfRec}
use Rattle.switch_model.specs.declared.record.RouteRec.{RouteRec}
use Rattle.switch_model.specs.Addresses.{subnets}
use Rattle.switch_model.specs.BestRoute.{BestRoute, best}
use Rattle.switch_model.specs.PlainState.{Rib}

-- the subnets of an interface, in its VRF
abbrev pub connected_keys : ℕ × IntfRec → List RouteKey
connected_keys e = map (λ prefix. record { vrf = e.1.vrf; prefix = prefix }) (subnets e.1.addrs)

-- the prefix of a route, in its VRF
abbrev pub routed_key : RibKey × RouteRec → RouteKey
routed_key e = record { vrf = e.0.vrf; prefix = e.0.prefix }

-- the prefixes that have a best route: the subnets of interfaces, and the prefixes of routes
abbrev pub best_keys : Rib → List RouteKey
best_keys rib = set_of route_cmp (flat_map connected_keys rib.intfs ++ map routed_key rib.routes)

-- those of a VRF that contain the ip
abbrev pub matches : Rib → ℕ → Ip → List RouteKey
matches rib vrf ip = filter (λ k. (k.vrf == vrf) && contains k.prefix ip) (best_keys rib)

-- of two prefixes the longer one
abbrev pub longer : RouteKey → RouteKey → RouteKey
longer a b = if nat_lt a.prefix.len b.prefix.len then b else a

-- a prefix with its best route
abbrev pub with_best : Rib → ℕ → Cidr → Option (Cidr × BestRoute)
with_best rib vrf prefix = option_map (λ b. (prefix, b)) (best rib vrf prefix)

-- the longest of the prefixes that contain the ip, with its best route
abbrev pub longest_match : Rib → ℕ → Ip → Option (Cidr × BestRoute)
longest_match rib vrf ip = option_and_then (λ k. with_best rib vrf k.prefix) (reduce longer (matches rib vrf ip))
