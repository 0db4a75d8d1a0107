use Rattle.std.proofs.Common.{◌∙◌, arith, subst, sym}
use Rattle.net_types.specs.declared.table.Tables.{Tables}
use Rattle.chip_core.specs.Changes.{AreOldRows, changed_rows}
use Rattle.net_types.specs.Closed.{IsClosed}
use Rattle.chip_core.specs.Chip.{view_of}
use Rattle.hw_undo_check.proofs.Oks.{answered, first_as, refused}
use Rattle.hw_undo_check.proofs.runs.written.Goals as goal

pub commit-answer-requires-clause-room : goal.commit-answer-requires-clause-room
commit-answer-requires-clause-room c = omega (arith, c.in-Ok.ensures.ok, c.writes.ensures)

pub commit-answer-requires-clause-old : goal.commit-answer-requires-clause-old
commit-answer-requires-clause-old c = subst (λ (t : Tables). AreOldRows c.args.changes (view_of t)) (sym c.in_ok-chip.ensures.raw) c.requires.old

pub commit-answer-requires-clause-closed : goal.commit-answer-requires-clause-closed
commit-answer-requires-clause-closed c = subst (λ (t : Tables). IsClosed (changed_rows c.args.changes (view_of t))) (sym c.in_ok-chip.ensures.raw) c.requires.closed

pub returns-in-Ok-clause-first : goal.returns-in-Ok-clause-first
returns-in-Ok-clause-first c = first_as _ c.args.changes _ c.args.tables _ c.args.caps c.in_ok-chip.ensures.raw c.in_ok-chip.ensures.caps c.commit-answer.ensures.first

pub returns-in-Ok-clause-err : goal.returns-in-Ok-clause-err
returns-in-Ok-clause-err c = refused c.commit-answer.result c.commit-answer.ensures.err (λ same. same ∙ c.in_ok-chip.ensures.raw)

pub returns-in-Ok-clause-made : goal.returns-in-Ok-clause-made
returns-in-Ok-clause-made c = answered c.commit-answer.result c.commit-answer.ensures.made (λ made. omega (arith, made, c.in_ok-chip.ensures.writes))
