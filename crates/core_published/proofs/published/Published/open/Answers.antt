use Rattle.core_published.proofs.Extending.{opened_is, opened_published}
use Rattle.core_published.proofs.published.Published.open.Goals as goal

pub invariant_of-result : goal.invariant_of-result
invariant_of-result c = opened_published c.args.base c.in_ok-state.state c.new.result c.args.caps c.requires.fib c.in_ok-state.ensures c.new.ensures.rounds

pub returns : goal.returns
returns c = record { opened = opened_is c.args.base c.in_ok-state.state c.new.result c.args.caps c.in_ok-state.ensures c.new.ensures.rounds }
