use Rattle.std.proofs.Common.{ap, length, ◌∙◌}
use Rattle.shared_journal.proofs.Cuts.{entries_are}
use Rattle.shared_journal.proofs.SharedJournal.front.Goals as goal

pub returns : goal.returns
returns c = record { entries = c.len.ensures.length ∙ ap length (entries_are c.self.inside.ends c.self.inside.entries c.args.self.now c.self.invariant c.self.view_is) }
