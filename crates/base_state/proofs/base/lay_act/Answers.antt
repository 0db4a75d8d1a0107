use Rattle.switch_model.specs.Reason.{reason_of_act}
use Rattle.switch_state.specs.Plain.{plain}
use Rattle.base_state.proofs.BaseLaws.{refused_by}
use Rattle.base_state.proofs.base.lay_act.Goals as goal

pub returns-in-Ok-Invalid-clause-reason : goal.returns-in-Ok-Invalid-clause-reason
returns-in-Ok-Invalid-clause-reason c = refused_by _ c.in-Ok-Invalid.reason (reason_of_act (plain c.args.edit.now.state) c.args.act) c.in-Ok-Invalid.ensures.answer c.in-Ok-Invalid.field-0-is
