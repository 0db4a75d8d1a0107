-- The forwarding information base: what becomes of packets to each prefix.
use Rattle.std.specs.Prelude.{ℕ, Bool, true, false, Option, None, Some, List, [], ◌∷◌, map, take, filter_map}
use Rattle.std.specs.List.{list_any}
use Rattle.keyed.specs.Sets.{set_of, entries_at}
use Rattle.net_types.specs.declared.hop.Hop.{Hop}
use Rattle.net_types.specs.declared.table.HostKey.{HostKey}
use Rattle.net_types.specs.declared.table.RouteKey.{RouteKey}
use Rattle.net_types.specs.Cidr.{Cidr}
use Rattle.net_types.specs.KeyOrder.{host_cmp, route_cmp}
use Rattle.switch_model.specs.declared.record.FibEntry.{FibEntry}
use Rattle.switch_model.specs.declared.record.FibEntry.TheVariants.{Connected, Forward, ToCpu, Discard}
use Rattle.switch_model.specs.declared.record.RouteRec.TheVariants as kept
use Rattle.switch_model.specs.BestRoute.{BestRoute, connected, learnt, best}
use Rattle.switch_model.specs.LongestMatch.{best_keys}
use Rattle.switch_model.specs.PlainState.{Rib}
use Rattle.switch_model.specs.Reach.{Lead, direct, to_cpu, dropped, all_reached}

-- the host that a hop leads to, where it does
abbrev pub direct_of : Lead → Option HostKey
direct_of (direct host) = Some host
direct_of _ = None

-- the hosts that are reached directly, by ip and then interface
abbrev pub direct_hosts : List Lead → List HostKey
direct_hosts leads = set_of host_cmp (filter_map direct_of leads)

-- a hop leads to the CPU
abbrev pub is_to_cpu : Lead → Bool
is_to_cpu to_cpu = true
is_to_cpu _ = false

-- a hop leads to a route that drops
abbrev pub is_dropped : Lead → Bool
is_dropped dropped = true
is_dropped _ = false

-- the hop to a host, over its interface
abbrev pub hop_of_host : HostKey → Hop
hop_of_host host = record { ip = host.ip; intf = Some host.intf }

-- the entry of these ends: the hosts where there are any, else the CPU where that is reached, else drop where that is, else none
abbrev pub entry_of_ends : List HostKey → Bool → Bool → Option FibEntry
entry_of_ends (host ∷ hosts) cpu drop = Some (Forward (map hop_of_host (host ∷ hosts)))
entry_of_ends [] true drop = Some ToCpu
entry_of_ends [] false true = Some Discard
entry_of_ends [] false false = None

-- the entry of a route that reaches all these: at most the first 64 hosts count
abbrev pub entry_of_leads : List Lead → Option FibEntry
entry_of_leads leads = entry_of_ends (take 64 (direct_hosts leads)) (list_any is_to_cpu leads) (list_any is_dropped leads)

-- the entry of a prefix with that best route: a route with hops has what its hops reach
abbrev pub fib_of_best : Rib → ℕ → Cidr → Option BestRoute → Option FibEntry
fib_of_best rib vrf prefix None = None
fib_of_best rib vrf prefix (Some (connected intf)) = Some (Connected intf)
fib_of_best rib vrf prefix (Some (learnt client kept.ToCpu)) = Some ToCpu
fib_of_best rib vrf prefix (Some (learnt client kept.Discard)) = Some Discard
fib_of_best rib vrf prefix (Some (learnt client (kept.Hops hops))) = entry_of_leads (all_reached rib vrf prefix)

-- what becomes of packets to a prefix
abbrev pub fib : Rib → ℕ → Cidr → Option FibEntry
fib rib vrf prefix = fib_of_best rib vrf prefix (best rib vrf prefix)

-- all entries, by VRF and prefix
abbrev pub fibs : Rib → List (RouteKey × FibEntry)
fibs rib = entries_at route_cmp (λ k. fib rib k.vrf k.prefix) (best_keys rib)
