use Rattle.core_laws.specs.Published.{journal_of}
use Rattle.offline_run.proofs.CheckLaws.{line_told, none_differs}
use Rattle.switch_state.specs.Plain.{plain}
use Rattle.offline_run.proofs.check.check_chip.Goals as goal

pub returns-in-Ok-line-clause-line : goal.returns-in-Ok-line-clause-line
returns-in-Ok-line-clause-line g c = line_told c.in-Ok-line.line.items (journal_of c.in-Ok.core.published) (plain c.args.state) c.args.state.version _ c.in-Ok.ensures.journal c.in-Ok-line.ensures.line

pub returns-in-Ok-line-clause-alike : goal.returns-in-Ok-line-clause-alike
returns-in-Ok-line-clause-alike g c = none_differs _ c.in-Ok.core _ _ c.in-Ok.ensures.refused
