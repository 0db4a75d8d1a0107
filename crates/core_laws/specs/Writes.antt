-- The most chip writes that a round makes.
use Rattle.std.specs.Prelude.{◌+◌, ◌*◌, ℕ, List, take, is_none, if◌then◌else◌}
use Rattle.journal_laws.specs.Settling.{after_run}
use Rattle.net_types.specs.Capacity.{over}
use Rattle.net_types.specs.declared.table.Caps.{Caps}
use Rattle.net_types.specs.Differ.{differ}
use Rattle.switch_model.specs.declared.act.Submission.{Submission}
use Rattle.switch_model.specs.PlainState.{PlainState}
use Rattle.switch_model.specs.Rows.{rows}

-- how many rows differ between those of the state and those that the run would give
abbrev pub differing_after : PlainState → List Submission → ℕ
differing_after m q = differ (rows m) (rows (after_run m q))

-- two for each row that differs where the run fits; else four for each that the run would have changed, and four for each that its first would
abbrev pub most_writes : PlainState → Caps → List Submission → ℕ
most_writes m caps q =
    if is_none (over (rows (after_run m q)) caps) then 2 * differing_after m q
    else 4 * differing_after m q + 4 * differing_after m (take 1 q)
