use Rattle.std.proofs.Common.{ap, Some, None, ◌∙◌, Bool}
use Rattle.shared_journal.proofs.Cuts.{end_is}
use Rattle.shared_journal.proofs.SharedJournal.round_end.Goals as goal

pub returns-in-None : goal.returns-in-None
returns-in-None c = record { end = end_is c.self.inside.ends c.self.inside.entries c.args.self.now c.args.k None c.self.invariant c.self.view_is c.in-None.ensures.item }

pub returns-in-Some : goal.returns-in-Some
returns-in-Some c = record { end = ap (λ (b : Bool). Some (c.in-Some.round.now.end, b)) c.is_whole.ensures ∙ end_is c.self.inside.ends c.self.inside.entries c.args.self.now c.args.k (Some c.in-Some.round.now) c.self.invariant c.self.view_is c.in-Some.ensures.item }
