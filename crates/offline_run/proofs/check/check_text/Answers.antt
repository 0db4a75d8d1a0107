use Rattle.offline_run.proofs.CheckLaws.{text_refused, text_tells}
use Rattle.offline_run.proofs.check.check_text.Goals as goal

pub returns-in-Ok-clause-line : goal.returns-in-Ok-clause-line
returns-in-Ok-clause-line c = text_tells c.check_saved.result c.args.bytes.now c.in-Ok.saved c.in-Ok.ensures c.check_saved.ensures.line

pub returns-in-Ok-clause-refused : goal.returns-in-Ok-clause-refused
returns-in-Ok-clause-refused c = text_refused c.check_saved.result c.args.bytes.now c.in-Ok.saved c.in-Ok.ensures c.check_saved.ensures.refused
