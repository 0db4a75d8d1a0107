use Rattle.std.proofs.Common.{Err, ap}
use Rattle.agent_words.specs.declared.command.Command.TheVariants.{Check}
use Rattle.offline_run.proofs.offline.name_of.Goals as goal

pub returns-in-Err-Refused : goal.returns-in-Err-Refused
returns-in-Err-Refused c = record { name = λ n asked. c.in-Err-Refused.ensures.refused (ap Err c.in-Err-Refused.field-0-is) (Check n) asked }
