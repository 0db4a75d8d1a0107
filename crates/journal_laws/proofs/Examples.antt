-- Worked examples: a run that was tried behind what it settled, two callers, and rows that differ.
use Rattle.std.proofs.Common.{◌≡◌, ℕ, true, false, List, [], ◌∷◌, map, refl, ap, ◌∙◌, lit≤, codes, inl, inr}
use Rattle.net_types.specs.Rows.{Rows}
use Rattle.net_types.specs.declared.table.Table.{Table}
use Rattle.net_types.specs.declared.table.Table.TheVariants.{L2}
use Rattle.switch_model.specs.declared.act.Act.TheVariants.{VlanAdd, PortAdd, MacSet}
use Rattle.switch_model.specs.declared.act.Submission.{Submission}
use Rattle.switch_model.specs.declared.act.Update.{Update}
use Rattle.switch_model.specs.declared.journal.Entry.{Entry}
use Rattle.switch_model.specs.declared.journal.Round.{Round}
use Rattle.switch_model.specs.declared.journal.RoundKind.TheVariants.{Whole, One}
use Rattle.switch_model.specs.declared.verdict.Verdict.{Verdict}
use Rattle.switch_model.specs.declared.verdict.Verdict.TheVariants.{Accepted, Invalid, Full}
use Rattle.switch_model.specs.declared.verdict.Reason.TheVariants.{NoVlan}
use Rattle.switch_model.specs.PlainState.{empty}
use Rattle.switch_model.specs.Journal.{Opening, Journal, entries, len, strip, upto, with_round}
use Rattle.switch_model.specs.MayComeOf.{MayComeOf}
use Rattle.switch_model.specs.Round.{next_round, run}
use Rattle.switch_model.proofs.Notation.{mac, state}
use Rattle.net_types.specs.Differ.{differ}
use Rattle.journal_laws.specs.Trying.{FoundFull, StandsAlone}
use Rattle.journal_laws.specs.Worlds.{AreAllowed, Step, submit, settle, read, read_tables, World, after, fronts, new_world}
use Rattle.journal_laws.proofs.RestsOnLaws.{last_alone}

-- a VLAN with one port, over a chip with room for one station
abbrev one_place : Opening
one_place = record { state = state (VlanAdd 10 (codes "web") ∷ PortAdd 1 10 ∷ []); version = 0; caps = record { l2 = 1; host = 0; group = 0; route = 0 } }

abbrev empty_journal : Journal
empty_journal = record { opening = one_place; rounds = [] }

abbrev station : ℕ → Update
station n = record { alone = false; act = MacSet 10 (mac 0 n) 1 }

abbrev by_caller : ℕ → ℕ → Update → Submission
by_caller caller seq update = record { caller = caller; seq = seq; update = update }

-- two stations don't fit, so the first is settled by itself
abbrev tried : Round
tried = next_round empty_journal (run (by_caller 0 0 (station 1) ∷ by_caller 0 1 (station 2) ∷ []))

tried_kind : tried.kind ≡ One
tried_kind = refl

tried_verdicts : map (λ (e : Entry). e.verdict) tried.entries ≡ Accepted ∷ []
tried_verdicts = refl

one_whole : One ≡ Whole → ⊥
one_whole h = cc

first_verdict : List Entry → Verdict
first_verdict [] = Accepted
first_verdict (e ∷ es) = e.verdict

not_full : FoundFull tried → ⊥
unfolding first_verdict
not_full found = let same : Accepted ≡ Full found.1 = ap first_verdict found.2 ∙ found.3 in never same
  where
    never : {t : Table} → Accepted ≡ Full t → ⊥
    never h = cc

not_alone : StandsAlone tried → ⊥
not_alone stands = elim stands [ inl whole ↦ one_whole whole | inr found ↦ not_full found ]

-- the first station alone would have been settled whole: this journal doesn't come of what it settles
more_was_tried : MayComeOf (strip (with_round empty_journal tried)) (with_round empty_journal tried) → ⊥
more_was_tried may_come = not_alone (last_alone empty_journal tried may_come)

-- within a run an update is judged after those before it: a port in a VLAN that the same run adds
in_turn : map (λ (e : Entry). e.verdict) (next_round (record { opening = record { state = empty; version = 0; caps = one_place.caps }; rounds = [] }) (run (by_caller 0 0 (record { alone = false; act = VlanAdd 10 (codes "web") }) ∷ by_caller 0 1 (record { alone = false; act = PortAdd 1 10 }) ∷ []))).entries ≡ Accepted ∷ Accepted ∷ []
in_turn = refl

-- an update by itself that has a reason, and whose rows would be over a capacity too, is invalid: the place is taken, the first of the run is
-- in no VLAN, and the second doesn't fit
abbrev place_taken : Journal
place_taken = with_round empty_journal (next_round empty_journal (run (by_caller 0 0 (station 1) ∷ [])))

abbrev no_vlan_first : Round
no_vlan_first = next_round place_taken (run (by_caller 0 1 (record { alone = false; act = MacSet 99 (mac 0 9) 1 }) ∷ by_caller 0 2 (station 2) ∷ []))

invalid_before_full : map (λ (e : Entry). e.verdict) no_vlan_first.entries ≡ Invalid NoVlan ∷ []
invalid_before_full = refl

invalid_by_itself : no_vlan_first.kind ≡ One
invalid_by_itself = refl

-- two callers, a limit of two

abbrev steps : List Step
steps = submit 0 (station 1) ∷ submit 1 (station 2) ∷ read 1 ∷ settle 0 2 ∷ read_tables 1 ∷ settle 1 1 ∷ read 0 ∷ []

steps_allowed : AreAllowed 2 2 (new_world one_place) steps
steps_allowed = ((lit≤ tt, lit≤ tt), ((lit≤ tt, lit≤ tt), (lit≤ tt, ((lit≤ tt, lit≤ tt, lit≤ tt), (lit≤ tt, ((lit≤ tt, lit≤ tt, lit≤ tt), (lit≤ tt, tt)))))))

abbrev world : World
world = after (new_world one_place) steps

world_verdicts : map (λ (e : Entry). e.verdict) (entries world.journal) ≡ Accepted ∷ Full L2 ∷ []
world_verdicts = refl

world_fronts : fronts 1 world.answers ≡ 0 ∷ 1 ∷ []
world_fronts = refl

other_fronts : fronts 0 world.answers ≡ 2 ∷ []
other_fronts = refl

-- between two ends the journal is that up to the lower one
upto_counts : map (λ n. len (upto world.journal n)) (0 ∷ 1 ∷ 2 ∷ 3 ∷ []) ≡ 0 ∷ 1 ∷ 2 ∷ 2 ∷ []
upto_counts = refl

-- rows that differ: one that goes, one that changes and one that comes

abbrev l2_rows : List (ℕ × ℕ) → Rows
l2_rows stations = record { l2 = map (λ s. (record { vlan = 10; mac = s.0 }, record { port = s.1; up = true })) stations; host = []; group = []; route = [] }

three_differ : differ (l2_rows ((1, 1) ∷ (2, 1) ∷ (3, 1) ∷ [])) (l2_rows ((2, 1) ∷ (3, 2) ∷ (4, 1) ∷ [])) ≡ 3
three_differ = refl
