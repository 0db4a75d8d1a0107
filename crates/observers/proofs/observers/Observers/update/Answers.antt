use Rattle.std.proofs.Common.{arith}
use Rattle.std.proofs.lemmas.Grind.{common_steps}
use Rattle.observers.specs.Watch.{IsTold, StandsAt}
use Rattle.observers.proofs.ListTurns.{changed, is_short, at_item}
use Rattle.observers.proofs.observers.Observers.update.Goals as goal

pub index_mut-one-requires : goal.index_mut-one-requires
index_mut-one-requires g c = grind (arith, common_steps, is_short g.O.StateObserver.watch (StandsAt c.args.old.now) c.args.self.now.list.items c.args.n c.requires.stands)

pub state_updated-requires-clause-stands : goal.state_updated-requires-clause-stands
state_updated-requires-clause-stands g c = at_item g.O.StateObserver.watch (StandsAt c.args.old.now) _ c.args.n _ c.index_mut-one.ensures.value c.requires.stands

pub returns : goal.returns
returns g c = record { told = changed g.O.StateObserver.watch (IsTold c.state_updated.result c.args.new.now) _ c.args.n _ _ (is_short g.O.StateObserver.watch (StandsAt c.args.old.now) _ _ c.requires.stands) c.index_mut-one.ensures.value c.state_updated.ensures.told }
