use Rattle.std.proofs.Common.{◌∙◌, ap, subst}
use Rattle.agent_run.proofs.RunningLaws.{core_reported}
use Rattle.chip_core.specs.Chip.{IsChip}
use Rattle.core_laws.specs.Published.{CoreView, IsCore, IsPublished}
use Rattle.agent_run.proofs.run.run_core.Goals as goal

pub returns : goal.returns
returns g c =
    let core = c.core.ensures.core in
    let published = c.published.ensures.published ∙ ap (λ (k : CoreView). k.published) c.core-2.ensures.core in
    record {
      report = core_reported _ c.args.work c.args.core c.in_ok-agent.agent c.report_agent.result c.shape.ensures.core c.requires.rounds c.requires.caps c.in_ok-agent.ensures.switch c.in_ok-agent.ensures.course c.shape-2.ensures.journal
          (subst IsCore core c.shape-3.ensures.core) (subst (λ (k : CoreView). IsChip k.caps k.raw) core c.shape-3.ensures.chip) (subst IsPublished published c.shape-4.ensures.published) c.report_agent.ensures.report;
    }
