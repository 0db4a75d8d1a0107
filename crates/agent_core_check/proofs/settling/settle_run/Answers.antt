use Rattle.std.proofs.Common.{◌≤◌, List, length, ap, arith, sym, subst, ◌∙◌}
use Rattle.core_laws.specs.Published.{PublishedView, journal_of}
use Rattle.journal_laws.proofs.RunLaws.{run_is_run, run_short}
use Rattle.switch_model.specs.declared.act.Submission.{Submission}
use Rattle.switch_model.specs.Journal.{len}
use Rattle.switch_model.specs.Legal.{IsRun}
use Rattle.agent_core_check.proofs.settling.settle_run.Goals as goal

pub round-requires-clause-run : goal.round-requires-clause-run
round-requires-clause-run g c = subst IsRun (sym c.in_ok-load.ensures.run) (run_is_run c.args.pending.now c.requires.some)

pub round-requires-clause-room : goal.round-requires-clause-room
round-requires-clause-room g c = omega (arith, c.if-front-gt-MOST.false, c.front-front.ensures.entries, ap (λ (p : PublishedView). len (journal_of p)) c.published.ensures.published, subst (λ (l : List Submission). length l ≤ 64) (sym c.in_ok-load.ensures.run) (run_short c.args.pending.now))
