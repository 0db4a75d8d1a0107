use Rattle.observers.specs.Watch.{StandsAt}
use Rattle.observers.proofs.ListTurns.{pairs_even}
use Rattle.core_audience.proofs.Audience.shape.Goals as goal

pub returns-clause-even : goal.returns-clause-even
returns-clause-even g c = rw (← c.self.view_is) (pairs_even StandsAt _ _ c.self.invariant)

pub returns-clause-stands : goal.returns-clause-stands
returns-clause-stands g c = rw (← c.self.view_is) c.self.invariant
