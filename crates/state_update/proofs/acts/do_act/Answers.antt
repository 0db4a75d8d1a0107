use Rattle.switch_model.specs.Reason.{reason_of_act}
use Rattle.switch_state.specs.Plain.{plain}
use Rattle.state_update.proofs.Building.{invalid_by}
use Rattle.state_update.proofs.acts.do_act.Goals as goal

pub returns-in-Invalid-clause-invalid : goal.returns-in-Invalid-clause-invalid
returns-in-Invalid-clause-invalid c = λ place reason same. invalid_by (reason_of_act (plain c.args.edit.now.state) c.args.act.now) c.in_ok-apply_act.field-0 c.args.index place c.in-Invalid.reason reason c.in_ok-apply_act.ensures.answer c.in-Invalid.is same
