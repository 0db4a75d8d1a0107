use Rattle.std.proofs.Common.{◌∙◌}
use Rattle.shared_journal.proofs.Cuts.{ends_count}
use Rattle.shared_journal.proofs.SharedJournal.rounds.Goals as goal

pub returns : goal.returns
returns c = record { rounds = c.len.ensures.length ∙ ends_count c.self.inside.ends c.self.inside.entries c.args.self.now c.self.view_is }
