use Rattle.fib_refresh.proofs.KeysLaws.{keys-has}
use Rattle.fib_refresh.proofs.keys.RouteKeys.contains.Goals as goal

pub returns : goal.returns
returns c =
    let same = keys-has c.self.inside.keys c.self.invariant c.args.self.now c.self.view_is c.args.key.now c.fib_key.ensures.range c.fib_key.result c.fib_key.ensures.key in
    ((λ holds. same.0 (c.contains.ensures.0 holds)), (λ has. c.contains.ensures.1 (same.1 has)))
