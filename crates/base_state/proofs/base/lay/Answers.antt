use Rattle.base_state.proofs.BaseLaws.{laid_by}
use Rattle.base_state.proofs.base.lay.Goals as goal

pub returns-in-Ok-None : goal.returns-in-Ok-None
returns-in-Ok-None c =
    record { base = laid_by c.in-Ok-None.field-0 c.args.base c.in_ok-edit.edit.state c.lay_all.new.edit.state c.finish.result c.in-Ok-None.field-0-is c.in-Ok-None.ensures.laid c.in_ok-edit.ensures c.lay_all.ensures.version c.finish.ensures.state }
