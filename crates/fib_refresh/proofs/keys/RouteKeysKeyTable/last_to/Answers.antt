use Rattle.std.proofs.Common.{None, Some, ap, ◌∙◌}
use Rattle.net_types.specs.declared.table.RouteKey.{RouteKey}
use Rattle.fib_refresh.proofs.KeysLaws.{keys-last, last-number}
use Rattle.fib_refresh.proofs.keys.RouteKeysKeyTable.last_to.Goals as goal

pub fib_of-requires : goal.fib_of-requires
fib_of-requires c = last-number c.self.inside.keys c.self.invariant c.args.self.now c.self.view_is _ _ c.in-Some.ensures

pub returns-in-None : goal.returns-in-None
returns-in-None c = keys-last c.self.inside.keys c.self.invariant c.args.self.now c.self.view_is c.shape.ensures c.args.bound.now c.fib_key.ensures.range c.fib_key.result c.fib_key.ensures.key None c.in-None.ensures

pub returns-in-Some : goal.returns-in-Some
returns-in-Some c = ap (λ (k : RouteKey). Some k) c.fib_of.ensures ∙ keys-last c.self.inside.keys c.self.invariant c.args.self.now c.self.view_is c.shape.ensures c.args.bound.now c.fib_key.ensures.range c.fib_key.result c.fib_key.ensures.key (Some _) c.in-Some.ensures
