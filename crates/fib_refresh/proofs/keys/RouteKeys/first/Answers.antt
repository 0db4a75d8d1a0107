use Rattle.std.proofs.Common.{None, Some, ap, ◌∙◌}
use Rattle.net_types.specs.declared.table.RouteKey.{RouteKey}
use Rattle.fib_refresh.proofs.KeysLaws.{first-number, keys-first}
use Rattle.fib_refresh.proofs.keys.RouteKeys.first.Goals as goal

pub fib_of-requires : goal.fib_of-requires
fib_of-requires c = first-number c.self.inside.keys c.self.invariant c.args.self.now c.self.view_is c.walk.result c.walk.ensures _ c.in-Some.ensures

pub returns-in-None : goal.returns-in-None
returns-in-None c = keys-first c.self.inside.keys c.self.invariant c.args.self.now c.self.view_is c.walk.result c.walk.ensures None c.in-None.ensures

pub returns-in-Some : goal.returns-in-Some
returns-in-Some c = ap (λ (k : RouteKey). Some k) c.fib_of.ensures ∙ keys-first c.self.inside.keys c.self.invariant c.args.self.now c.self.view_is c.walk.result c.walk.ensures (Some _) c.in-Some.ensures
