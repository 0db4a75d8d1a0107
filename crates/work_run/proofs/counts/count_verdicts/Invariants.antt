use Rattle.std.proofs.Common.{◌≡◌, take}
use Rattle.core_laws.specs.Published.{journal_of}
use Rattle.switch_model.specs.Journal.{entries}
use Rattle.work_laws.specs.Summary.{verdict_counts}
use Rattle.work_run.proofs.counts.count_verdicts.Given as goal

abbrev pub invariant-loop-position : goal.invariant-loop-position
invariant-loop-position l = l.counts ≡ verdict_counts (take l.position (entries (journal_of l.published)))
