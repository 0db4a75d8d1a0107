use Rattle.report_text.proofs.AnswerLaws.{said}
use Rattle.report_text.proofs.answers.answers_say_what_is_found.Goals as goal

pub returns : goal.returns
returns c = said
