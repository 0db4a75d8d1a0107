use Rattle.std.proofs.Common.{None, Some, ap, ◌∙◌}
use Rattle.net_types.specs.declared.table.RouteKey.{RouteKey}
use Rattle.fib_refresh.proofs.KeysLaws.{keys-past, past-number}
use Rattle.fib_refresh.proofs.keys.RouteKeys.past.Goals as goal

pub fib_of-requires : goal.fib_of-requires
fib_of-requires c = past-number c.self.inside.keys c.self.invariant c.args.self.now c.self.view_is _ _ c.in-Some.ensures.value

pub returns-in-None : goal.returns-in-None
returns-in-None c = keys-past c.self.inside.keys c.self.invariant c.args.self.now c.self.view_is c.args.key.now c.fib_key.ensures.range c.fib_key.result c.fib_key.ensures.key None c.in-None.ensures.value

pub returns-in-Some : goal.returns-in-Some
returns-in-Some c = ap (λ (k : RouteKey). Some k) c.fib_of.ensures ∙ keys-past c.self.inside.keys c.self.invariant c.args.self.now c.self.view_is c.args.key.now c.fib_key.ensures.range c.fib_key.result c.fib_key.ensures.key (Some _) c.in-Some.ensures.value
