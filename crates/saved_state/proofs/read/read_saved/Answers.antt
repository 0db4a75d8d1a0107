use Rattle.saved_state.proofs.SavedLaws.{not_read}
use Rattle.saved_state.proofs.read.read_saved.Goals as goal

pub returns-in-Ok : goal.returns-in-Ok
returns-in-Ok c = c.read_value-answer.ensures c.args.bytes.now c.in-Ok.ensures.ok

pub returns-in-Err : goal.returns-in-Err
returns-in-Err c = not_read c.args.bytes.now c.in-Err.fault c.in-Err.ensures.err
