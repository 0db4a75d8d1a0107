use Rattle.std.proofs.lemmas.Result.{IfOk-weaker}
use Rattle.offline_run.proofs.CheckLaws.{state_told}
use Rattle.offline_run.proofs.text.state_line.Goals as goal

pub returns : goal.returns
returns c = record { line = IfOk-weaker c.counts_line.result _ _ (λ line told. state_told line.items c.version.result c.counts-totals.result c.args.state.now c.version.ensures c.counts-totals.ensures.counts told) c.counts_line.ensures.line }
