-- How a run of submissions is settled.
use Rattle.std.specs.Prelude.{ℕ, ◌+◌, Bool, true, false, is_none, Option, None, Some, List, [], ◌∷◌, map, take, if◌then◌else◌}
use Rattle.net_types.specs.declared.table.Caps.{Caps}
use Rattle.net_types.specs.declared.table.Table.{Table}
use Rattle.switch_model.specs.declared.act.Submission.{Submission}
use Rattle.switch_model.specs.declared.journal.Entry.{Entry}
use Rattle.switch_model.specs.declared.journal.Round.{Round}
use Rattle.switch_model.specs.declared.journal.RoundKind.{RoundKind}
use Rattle.switch_model.specs.declared.journal.RoundKind.TheVariants.{Whole, One}
use Rattle.switch_model.specs.declared.verdict.Reason.{Reason}
use Rattle.switch_model.specs.declared.verdict.Verdict.{Verdict}
use Rattle.switch_model.specs.declared.verdict.Verdict.TheVariants.{Accepted, Invalid, Full}
use Rattle.switch_model.specs.PlainState.{PlainState}
use Rattle.switch_model.specs.Reason.{reason}
use Rattle.switch_model.specs.Effect.{effect}
use Rattle.switch_model.specs.Rows.{rows}
use Rattle.net_types.specs.Capacity.{over}
use Rattle.switch_model.specs.Journal.{Journal, after_verdict, after_entries, fold, version_of}

-- submissions up to the first that is to be alone
abbrev pub unmarked : List Submission → List Submission
unmarked [] = []
unmarked (s ∷ ss) = if s.update.alone then [] else s ∷ unmarked ss

-- the run of pending submissions: the first by itself where it is to be alone, else at most 64 of those before the next such
abbrev pub run : List Submission → List Submission
run [] = []
run (s ∷ ss) = if s.update.alone then s ∷ [] else take 64 (unmarked (s ∷ ss))

-- the verdict on an update of a run that fits: invalid where it has a reason
abbrev pub verdict_in_run : Option Reason → Verdict
verdict_in_run None = Accepted
verdict_in_run (Some r) = Invalid r

-- the verdict on an update by itself: invalid where it has a reason, else full where a table is over its capacity
abbrev pub verdict_alone : Option Reason → Option Table → Verdict
verdict_alone (Some r) t = Invalid r
verdict_alone None (Some t) = Full t
verdict_alone None None = Accepted

-- a run with its verdicts, each update after the accepted ones before it
abbrev pub with_verdicts : PlainState → List Submission → List (Submission × Verdict)
with_verdicts m [] = []
with_verdicts m (s ∷ ss) = let verdict = verdict_in_run (reason m s.update) in (s, verdict) ∷ with_verdicts (after_verdict m s.update verdict) ss

-- one submission with its verdict by itself, by the rows that its effect gives
abbrev pub with_verdict_alone : PlainState → Caps → Submission → Submission × Verdict
with_verdict_alone m caps s = (s, verdict_alone (reason m s.update) (over (rows (effect m s.update.act)) caps))

-- the update was accepted
abbrev pub is_accepted : Verdict → Bool
is_accepted Accepted = true
is_accepted (Invalid r) = false
is_accepted (Full t) = false

-- a round raises the version by one where it accepts something
abbrev pub next_version : ℕ → List Verdict → ℕ
next_version v [] = v
next_version v (verdict ∷ vs) = if is_accepted verdict then v + 1 else next_version v vs

-- the entry of a submission with its verdict, in a round that ends at that version
abbrev pub entry_of : ℕ → Submission × Verdict → Entry
entry_of version x = record { caller = x.0.caller; seq = x.0.seq; update = x.0.update; verdict = x.1; version = version }

-- the round of submissions with these verdicts, after that version
abbrev pub round_of : RoundKind → ℕ → List (Submission × Verdict) → Round
round_of kind v xs = record { kind = kind; entries = map (entry_of (next_version v (map (λ x. x.1) xs))) xs }

-- a round of the first of a run by itself
abbrev pub one_round : PlainState → ℕ → Caps → List Submission → Round
one_round m v caps [] = round_of One v []
one_round m v caps (s ∷ ss) = round_of One v (with_verdict_alone m caps s ∷ [])

-- a round of the whole run
abbrev pub whole_round : PlainState → ℕ → List Submission → Round
whole_round m v q = round_of Whole v (with_verdicts m q)

-- no table is over its capacity with the rows of the state
abbrev pub fits : PlainState → Caps → Bool
fits m caps = is_none (over (rows m) caps)

-- the round that settles a run: the whole run where the state after it fits, else its first
abbrev pub settled : PlainState → ℕ → Caps → List Submission → Round
settled m v caps q = let whole = whole_round m v q in if fits (after_entries m whole.entries) caps then whole else one_round m v caps q

-- the round that comes next in a journal
abbrev pub next_round : Journal → List Submission → Round
next_round j q = settled (fold j) (version_of j) j.opening.caps q
