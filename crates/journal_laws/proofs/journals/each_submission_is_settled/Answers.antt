use Rattle.journal_laws.proofs.SettledAtLaws.{settled_after}
use Rattle.journal_laws.proofs.journals.each_submission_is_settled.Goals as goal

pub returns : goal.returns
returns c = settled_after
