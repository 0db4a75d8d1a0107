-- What the answers about routes mean.
use Rattle.std.specs.Prelude.{Bool, true, Option, None, Some, List, find}
use Rattle.std.specs.Ordering.{is_lt}
use Rattle.net_types.specs.declared.table.RouteKey.{RouteKey}
use Rattle.net_types.specs.KeyOrder.{route_cmp}
use Rattle.switch_model.specs.declared.look.Best.{Best}
use Rattle.switch_model.specs.declared.look.Best.TheVariants as answer
use Rattle.switch_model.specs.declared.look.Resolved.{Resolved}
use Rattle.switch_model.specs.declared.look.Resolved.TheVariants.{Connected, Forward, ToCpu, Discard, Nothing}
use Rattle.switch_model.specs.declared.record.FibEntry.{FibEntry}
use Rattle.switch_model.specs.declared.record.FibEntry.TheVariants as fib
use Rattle.switch_model.specs.BestRoute.{BestRoute, connected, learnt}

-- the best route that an answer says
abbrev pub best_route : Best → BestRoute
best_route (answer.Connected intf) = connected intf
best_route (answer.Route client route) = learnt client route.now

-- the FIB entry that an answer says
abbrev pub resolved_entry : Resolved → Option FibEntry
resolved_entry (Connected intf) = Some (fib.Connected intf)
resolved_entry (Forward hops) = Some (fib.Forward hops)
resolved_entry ToCpu = Some fib.ToCpu
resolved_entry Discard = Some fib.Discard
resolved_entry Nothing = None

-- past a key, where one is given
abbrev pub is_past : Option RouteKey → RouteKey → Bool
is_past None key = true
is_past (Some from) key = is_lt (route_cmp from key)

-- the first key past another one, or the first of all
abbrev pub key_after : Option RouteKey → List RouteKey → Option RouteKey
key_after from keys = find (is_past from) keys
