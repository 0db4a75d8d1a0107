use Rattle.std.proofs.Common.{◌∙◌}
use Rattle.core_published.proofs.Attempting.{some_accepted}
use Rattle.core_published.proofs.published.Published.tried.Goals as goal

pub accepted-requires-clause-some : goal.accepted-requires-clause-some
accepted-requires-clause-some c = some_accepted c.args.judged.items c.any_accepted.result c.any_accepted.ensures.some ∙ c.if-any_accepted.true

pub unaccepted-requires-clause-none : goal.unaccepted-requires-clause-none
unaccepted-requires-clause-none c = some_accepted c.args.judged.items c.any_accepted.result c.any_accepted.ensures.some ∙ c.if-any_accepted.false
