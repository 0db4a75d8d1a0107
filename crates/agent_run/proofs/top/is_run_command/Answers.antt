use Rattle.std.proofs.Common.{arith}
use Rattle.std.specs.String.{string_bytes}
use Rattle.run_outcome.proofs.TopLaws.{one_word}
use Rattle.agent_run.proofs.top.is_run_command.Goals as goal

pub returns-then-len-eq1 : goal.returns-then-len-eq1
returns-then-len-eq1 c = one_word string_bytes c.args.words.now.items _ _ _ _ (omega arith) c.index.ensures c.as_str.ensures.value c.eq.ensures
