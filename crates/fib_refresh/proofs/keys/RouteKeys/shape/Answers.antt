use Rattle.fib_refresh.proofs.KeysLaws.{keys-ascend, keys-prefixes}
use Rattle.fib_refresh.proofs.keys.RouteKeys.shape.Goals as goal

pub returns-clause-ascend : goal.returns-clause-ascend
returns-clause-ascend c = keys-ascend c.self.inside.keys c.self.invariant c.args.self.now c.self.view_is c.shape.ensures

pub returns-clause-prefixes : goal.returns-clause-prefixes
returns-clause-prefixes c = keys-prefixes c.self.inside.keys c.self.invariant c.args.self.now c.self.view_is
