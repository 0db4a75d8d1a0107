use Rattle.std.proofs.Common.{ap, ◌∙◌}
use Rattle.switch_state.specs.StateView.{StateView}
use Rattle.work_run.proofs.SumLaws.{outcome_is, summed}
use Rattle.work_run.proofs.summing.sum_up.Goals as goal

pub returns : goal.returns
returns g c =
    let core = c.args.core.now in
    let p = c.published-published.result.now in
    let version = c.version.ensures ∙ ap (λ (s : StateView). s.version) c.state.ensures.state in
    let outcome = outcome_is core p c.args.seed c.args.count c.count_verdicts.result c.rounds.result c.version.result c.in_ok-rows.rows c.shape.ensures.core c.shape-2.ensures.published c.published-published.ensures.published c.count_verdicts.ensures c.rounds.ensures.rounds version c.in_ok-rows.ensures in
    record { summary = summed _ _ c.in_ok-digest.digest p core.published c.args.seed c.args.count c.summary_bytes.result outcome c.published-published.ensures.published c.in_ok-digest.ensures.taken c.summary_bytes.ensures }
