-- Counts that go up entry by entry.
use Rattle.std.specs.Prelude.{◌≤◌, ◌+◌}
use Rattle.switch_model.specs.declared.verdict.Verdict.{Verdict}
use Rattle.switch_model.specs.declared.verdict.Verdict.TheVariants.{Accepted, Invalid, Full}
use Rattle.work_summary.specs.declared.summary.VerdictCounts.{VerdictCounts}

-- with one more entry, of that verdict
abbrev pub counted : VerdictCounts → Verdict → VerdictCounts
counted c Accepted = record { entries = c.entries + 1; accepted = c.accepted + 1; invalid = c.invalid; full = c.full }
counted c (Invalid reason) = record { entries = c.entries + 1; accepted = c.accepted; invalid = c.invalid + 1; full = c.full }
counted c (Full table) = record { entries = c.entries + 1; accepted = c.accepted; invalid = c.invalid; full = c.full + 1 }

-- no verdict has more entries than there are
pub record AreWithin (c : VerdictCounts) : Type 0 where
  pub accepted : c.accepted ≤ c.entries
  pub invalid : c.invalid ≤ c.entries
  pub full : c.full ≤ c.entries
