use Rattle.observers.specs.Watch.{IsBegun}
use Rattle.observers.proofs.ListTurns.{changed}
use Rattle.observers.proofs.observers.Observers.begin.Goals as goal

pub returns : goal.returns
returns g c = record { begun = changed g.O.StateObserver.watch (IsBegun c.state_begun.result c.args.state.now) _ c.args.n _ _ c.requires.there c.index_mut-one.ensures.value c.state_begun.ensures.begun }
