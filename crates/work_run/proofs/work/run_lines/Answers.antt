use Rattle.std.proofs.Common.{ℕ, ap, ◌∙◌}
use Rattle.core_laws.specs.Published.{journal_of}
use Rattle.solo_agent.specs.Views.{SoloView}
use Rattle.told_laws.specs.Course.{phases, started}
use Rattle.work_laws.proofs.WorkLaws.{one_caller}
use Rattle.work_laws.specs.Work.{in_blocks}
use Rattle.work_run.proofs.WorkLaws.{agent_sums}
use Rattle.work_run.proofs.work.run_lines.Goals as goal

pub serve_blocks-requires : goal.serve_blocks-requires
serve_blocks-requires g c = record { callers = one_caller c.args.seed c.args.count c.args.lines.now c.requires.lines }

pub returns-in-Ok : goal.returns-in-Ok
returns-in-Ok g c =
    let opening = (journal_of c.args.core.published).opening in
    let blocks = in_blocks c.args.lines.now in
    let course = c.in-Ok.ensures.course ∙ ap (λ (a : SoloView). phases a.limit a.course blocks) c.in_ok-agent.ensures.opened ∙ ap (λ (n : ℕ). phases n (started opening) blocks) c.from.ensures in
    record { sums = agent_sums _ c.args.seed c.args.count opening c.args.lines.now c.serve_blocks.new.agent c.core.result.now c.sum_up-text.result c.requires.lines course c.shape.ensures.journal c.core.ensures.core c.sum_up-text.ensures.summary }
