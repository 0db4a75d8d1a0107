use Rattle.std.proofs.Common.{ap}
use Rattle.switch_state.specs.Edit.{EditView}
use Rattle.switch_state.specs.Plain.{plain}
use Rattle.core_published.proofs.parts.renew_fib_of.Goals as goal

pub renew_fib-requires-clause-base : goal.renew_fib-requires-clause-base
renew_fib-requires-clause-base c = c.requires.base

pub renew_fib-requires-clause-later : goal.renew_fib-requires-clause-later
renew_fib-requires-clause-later c = c.requires.later

pub renew_fib-requires-clause-right : goal.renew_fib-requires-clause-right
renew_fib-requires-clause-right c = c.requires.fib

pub renew_fib-requires-clause-untouched : goal.renew_fib-requires-clause-untouched
renew_fib-requires-clause-untouched c = c.requires.fibs

pub returns-clause-fib : goal.returns-clause-fib
returns-clause-fib c = c.in_ok-renew_fib.ensures.fib

pub returns-clause-others : goal.returns-clause-others
returns-clause-others c = c.renew_fib.ensures.others

pub returns-clause-plain : goal.returns-clause-plain
returns-clause-plain c = ap (λ (e : EditView). plain e.state) c.renew_fib.ensures.others
