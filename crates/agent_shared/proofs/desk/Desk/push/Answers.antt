use Rattle.std.proofs.Common.{◌<◌, ◌++◌, length, ap, arith}
use Rattle.core_laws.specs.Published.{journal_of}
use Rattle.shared_laws.specs.Ground.{DeskView}
use Rattle.switch_model.specs.Journal.{strip}
use Rattle.agent_shared.proofs.Desks.{desk_pushes}
use Rattle.agent_shared.proofs.desk.Desk.push.Goals as goal

pub invariant_of-self : goal.invariant_of-self
invariant_of-self c =
    let s = c.self.inside in
    let below : length (strip (journal_of s.published) ++ s.pending) < s.limit = omega (arith, c.if-sent-self.false, c.sent.ensures, ap (λ (d : DeskView). length d.sent) c.self.view_is) in
    desk_pushes s.published s.pending c.push.new.self s.limit s.sure c.args.submission c.push.result below c.self.invariant c.push.ensures.ok c.push.ensures.err
