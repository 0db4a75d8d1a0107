use Rattle.saved_state.proofs.SavedLaws.{one_answer}
use Rattle.saved_state.proofs.laws.each_text_has_one_answer.Goals as goal

pub returns : goal.returns
returns c = one_answer
