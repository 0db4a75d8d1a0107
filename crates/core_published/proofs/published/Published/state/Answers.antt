use Rattle.std.proofs.Common.{ap}
use Rattle.core_laws.specs.Published.{PublishedView}
use Rattle.core_published.proofs.published.Published.state.Goals as goal

pub returns-clause-state : goal.returns-clause-state
returns-clause-state c = ap (λ (v : PublishedView). v.state) c.self.view_is

pub returns-clause-fib : goal.returns-clause-fib
returns-clause-fib c = c.self.invariant.fib
