use Rattle.offline_run.proofs.CheckLaws.{state_tells, state_untaken}
use Rattle.switch_state.specs.Plain.{plain}
use Rattle.offline_run.proofs.check.check_saved.Goals as goal

pub returns-in-Ok-clause-line : goal.returns-in-Ok-clause-line
returns-in-Ok-clause-line c = state_tells c.check_chip.result c.args.saved.caps c.args.saved.tables _ c.args.saved.state.version (plain c.args.saved.state) c.in-Ok.ensures.image c.in-Ok.ensures.raw c.check_chip.ensures.line c.check_chip.ensures.shown c.check_chip.ensures.alike

pub returns-in-Ok-clause-refused : goal.returns-in-Ok-clause-refused
returns-in-Ok-clause-refused c = state_untaken c.check_chip.result c.args.saved.caps c.args.saved.tables _ (plain c.args.saved.state) c.in-Ok.ensures.image c.in-Ok.ensures.raw c.check_chip.ensures.refused
