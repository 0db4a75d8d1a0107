use Rattle.core_published.proofs.Attempting.{refused_is}
use Rattle.core_published.proofs.refusal.refused_alone.Goals as goal

pub returns : goal.returns
returns c = record { first = refused_is c.args.table c.args.run.now c.index-run-0.result c.in_ok-first.first c.push.new.self.items c.new-list.result.items c.requires.some c.index-run-0.is c.in_ok-first.ensures.same c.new-list.ensures.items c.in_ok-push.ensures.items }
