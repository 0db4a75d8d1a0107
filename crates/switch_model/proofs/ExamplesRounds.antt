-- Worked examples: runs, rounds and verdicts.
use Rattle.std.proofs.Common.{◌≡◌, ℕ, ◌+◌, true, false, Ok, Err, List, [], ◌∷◌, map, take, length, refl, codes, arith}
use Rattle.net_types.specs.declared.table.Table.TheVariants.{L2}
use Rattle.switch_model.specs.declared.act.Act.{Act}
use Rattle.switch_model.specs.declared.act.Act.TheVariants.{VlanAdd, PortAdd, PortUp, PortDown, MacSet, MacDel}
use Rattle.switch_model.specs.declared.act.Submission.{Submission}
use Rattle.switch_model.specs.declared.act.Update.{Update}
use Rattle.switch_model.specs.declared.journal.RoundKind.{RoundKind}
use Rattle.switch_model.specs.declared.journal.RoundKind.TheVariants.{Whole, One}
use Rattle.switch_model.specs.declared.verdict.Reason.TheVariants.{NoVlan, NoPort}
use Rattle.switch_model.specs.declared.verdict.Verdict.{Verdict}
use Rattle.switch_model.specs.declared.verdict.Verdict.TheVariants.{Accepted, Invalid, Full}
use Rattle.switch_model.specs.Built.{built, laid}
use Rattle.switch_model.specs.Legal.{IsLegal}
use Rattle.switch_model.specs.MayComeOf.{MayComeOf}
use Rattle.switch_model.specs.PlainState.{PlainState, empty}
use Rattle.switch_model.specs.Rows.{rows}
use Rattle.switch_model.specs.Totals.{totals}
use Rattle.switch_model.specs.Journal.{Journal, entries, fold, len, upto, with_round}
use Rattle.switch_model.specs.Round.{run, next_round}
use Rattle.switch_model.proofs.Notation.{mac, numbers, state}

-- a journal with nothing in it, over a chip with room for so many stations
abbrev opened : PlainState → ℕ → Journal
opened m l2 = record { opening = record { state = m; version = 0; caps = record { l2 = l2; host = 0; group = 0; route = 0 } }; rounds = [] }

abbrev update : Act → Update
update act = record { alone = false; act = act }

abbrev alone : Act → Update
alone act = record { alone = true; act = act }

-- updates as caller 0 submits them, numbered from one on
abbrev submitted : ℕ → List Update → List Submission
submitted seq [] = []
submitted seq (u ∷ us) = record { caller = 0; seq = seq; update = u } ∷ submitted (seq + 1) us

-- the journal with the round that settles a run of these
abbrev settling : Journal → List Update → Journal
settling j updates = with_round j (next_round j (run (submitted (length (entries j)) updates)))

-- each list of updates pending by itself, in turn
abbrev played : Journal → List (List Update) → Journal
played j [] = j
played j (pending ∷ more) = played (settling j pending) more

-- each act settled before the next is submitted
abbrev one_by_one : List Act → List (List Update)
one_by_one acts = map (λ act. update act ∷ []) acts

abbrev verdicts : Journal → List Verdict
verdicts j = map (λ e. e.verdict) (entries j)

abbrev versions : Journal → List ℕ
versions j = map (λ e. e.version) (entries j)

abbrev kinds : Journal → List RoundKind
kinds j = map (λ r. r.kind) j.rounds

-- a port that goes down keeps its station's row, marked down
abbrev one_port : Journal
one_port = played (opened empty 4) (one_by_one (VlanAdd 10 (codes "web") ∷ PortAdd 1 10 ∷ PortUp 1 ∷ MacSet 10 (mac 0 10) 1 ∷ PortDown 1 ∷ []))

rows_of_one_port : rows (fold one_port) ≡ record { l2 = (record { vlan = 10; mac = mac 0 10 }, record { port = 1; up = false }) ∷ []; host = []; group = []; route = [] }
rows_of_one_port = refl

versions_of_one_port : versions one_port ≡ 1 ∷ 2 ∷ 3 ∷ 4 ∷ 5 ∷ []
versions_of_one_port = refl

totals_of_one_port : totals (fold one_port) ≡ record { ports = 1; up = 0; vlans = 1; intfs = 0; macs = 1; neighbors = 0; routes = 0; fib = 0 }
totals_of_one_port = refl

-- an invalid update is in a whole round, and leaves the version
invalid_by_itself : verdicts (played (opened empty 1) (one_by_one (MacSet 10 (mac 0 1) 7 ∷ []))) ≡ Invalid NoVlan ∷ []
invalid_by_itself = refl

-- a VLAN with one port, over a chip with room for one station
abbrev one_place : Journal
one_place = opened (state (VlanAdd 10 (codes "web") ∷ PortAdd 1 10 ∷ [])) 1

invalid_leaves_the_version : versions (played one_place (one_by_one (MacSet 10 (mac 0 1) 7 ∷ []))) ≡ 0 ∷ []
invalid_leaves_the_version = refl

-- a second station doesn't fit until the first one is gone
abbrev taken_turns : Journal
taken_turns = played one_place (one_by_one (MacSet 10 (mac 0 1) 1 ∷ MacSet 10 (mac 0 2) 1 ∷ MacDel 10 (mac 0 1) ∷ MacSet 10 (mac 0 2) 1 ∷ MacSet 10 (mac 0 2) 7 ∷ []))

verdicts_of_taken_turns : verdicts taken_turns ≡ Accepted ∷ Full L2 ∷ Accepted ∷ Accepted ∷ Invalid NoPort ∷ []
verdicts_of_taken_turns = refl

kinds_of_taken_turns : kinds taken_turns ≡ Whole ∷ One ∷ Whole ∷ Whole ∷ Whole ∷ []
kinds_of_taken_turns = refl

versions_of_taken_turns : versions taken_turns ≡ 1 ∷ 1 ∷ 2 ∷ 3 ∷ 3 ∷ []
versions_of_taken_turns = refl

-- in one run the second station comes and the first one goes: only the rows after the run must fit
abbrev swapped : Journal
swapped = played one_place ((update (MacSet 10 (mac 0 1) 1) ∷ []) ∷ (update (MacSet 10 (mac 0 2) 1) ∷ update (MacDel 10 (mac 0 1)) ∷ [])
    ∷ (alone (MacSet 10 (mac 0 3) 1) ∷ update (MacDel 10 (mac 0 2)) ∷ []) ∷ (update (MacDel 10 (mac 0 2)) ∷ []) ∷ [])

verdicts_of_swapped : verdicts swapped ≡ Accepted ∷ Accepted ∷ Accepted ∷ Full L2 ∷ Accepted ∷ []
verdicts_of_swapped = refl

kinds_of_swapped : kinds swapped ≡ Whole ∷ Whole ∷ One ∷ Whole ∷ []
kinds_of_swapped = refl

versions_of_swapped : versions swapped ≡ 1 ∷ 2 ∷ 2 ∷ 2 ∷ 3 ∷ []
versions_of_swapped = refl

-- where a run doesn't fit, its first submission is settled by itself
abbrev crowded : Journal
crowded = played one_place ((update (MacSet 10 (mac 0 1) 1) ∷ update (MacSet 10 (mac 0 2) 1) ∷ []) ∷ [])

verdicts_of_crowded : verdicts crowded ≡ Accepted ∷ []
verdicts_of_crowded = refl

kinds_of_crowded : kinds crowded ≡ One ∷ []
kinds_of_crowded = refl

abbrev flips : List Submission
flips = submitted 0 (map (λ n. update (PortUp 1)) (numbers 0 65))

-- a run has at most 64 submissions
run_of_65 : run flips ≡ take 64 flips
run_of_65 = refl

-- it ends before one that is to be alone, which is a run of its own
run_up_to_one_alone : run (submitted 0 (update (PortUp 1) ∷ alone (PortUp 1) ∷ update (PortUp 1) ∷ [])) ≡ submitted 0 (update (PortUp 1) ∷ [])
run_up_to_one_alone = refl

run_of_one_alone : run (submitted 0 (alone (PortUp 1) ∷ update (PortUp 1) ∷ [])) ≡ submitted 0 (alone (PortUp 1) ∷ [])
run_of_one_alone = refl

-- what a run leaves at its end: the first station's row, the last one's
stations_of_swapped : map (λ e. e.0.mac) (rows (fold swapped)).l2 ≡ []
stations_of_swapped = refl

station_of_taken_turns : (rows (fold taken_turns)).l2 ≡ (record { vlan = 10; mac = mac 0 2 }, record { port = 1; up = false }) ∷ []
station_of_taken_turns = refl

-- an update of a run may need the one before it
abbrev in_turn_updates : List Update
in_turn_updates = update (VlanAdd 10 (codes "web")) ∷ update (PortAdd 1 10) ∷ []

abbrev in_turn : Journal
in_turn = played (opened empty 4) (in_turn_updates ∷ [])

verdicts_of_in_turn : verdicts in_turn ≡ Accepted ∷ Accepted ∷ []
verdicts_of_in_turn = refl

versions_of_in_turn : versions in_turn ≡ 1 ∷ 1 ∷ []
versions_of_in_turn = refl

-- a whole round is legal, and comes of what it settled
in_turn_is_legal : IsLegal in_turn
in_turn_is_legal = (refl, ((((λ e. cc), refl), (refl, (refl, tt)), refl, (refl, (refl, tt))), tt))

in_turn_may_come_of_its_updates : MayComeOf (submitted 0 in_turn_updates) in_turn
in_turn_may_come_of_its_updates = record { legal = in_turn_is_legal; settled = (_, refl); rounds = ((2, omega arith, omega arith, omega arith, refl), tt) }

-- where a run doesn't fit its first submission may be invalid, and then the version stays
abbrev crowded_updates : List Update
crowded_updates = update (MacSet 10 (mac 0 1) 7) ∷ update (MacSet 10 (mac 0 1) 1) ∷ update (MacSet 10 (mac 0 2) 1) ∷ []

abbrev invalid_first : Journal
invalid_first = played one_place (crowded_updates ∷ [])

kinds_of_invalid_first : kinds invalid_first ≡ One ∷ []
kinds_of_invalid_first = refl

verdicts_of_invalid_first : verdicts invalid_first ≡ Invalid NoPort ∷ []
verdicts_of_invalid_first = refl

versions_of_invalid_first : versions invalid_first ≡ 0 ∷ []
versions_of_invalid_first = refl

invalid_first_is_legal : IsLegal invalid_first
invalid_first_is_legal = (refl, ((_, refl, refl, (refl, tt)), tt))

invalid_first_may_come_of_its_updates : MayComeOf (submitted 0 crowded_updates) invalid_first
invalid_first_may_come_of_its_updates = record { legal = invalid_first_is_legal; settled = (_, refl); rounds = ((3, omega arith, omega arith, omega arith, refl), tt) }

-- an update that has a reason is invalid, though its rows would be over the capacity too
abbrev invalid_and_over : Journal
invalid_and_over = played one_place ((update (MacSet 10 (mac 0 1) 1) ∷ []) ∷ (update (MacSet 10 (mac 0 2) 7) ∷ update (MacSet 10 (mac 0 3) 1) ∷ []) ∷ [])

verdicts_of_invalid_and_over : verdicts invalid_and_over ≡ Accepted ∷ Invalid NoPort ∷ []
verdicts_of_invalid_and_over = refl

kinds_of_invalid_and_over : kinds invalid_and_over ≡ Whole ∷ One ∷ []
kinds_of_invalid_and_over = refl

-- a journal as it was at its beginning, at the end of a round, between two ends, and as it is
upto_none : (upto swapped 0).rounds ≡ []
upto_none = refl

upto_an_end : kinds (upto swapped 3) ≡ Whole ∷ Whole ∷ []
upto_an_end = refl

upto_between_two_ends : kinds (upto swapped 2) ≡ Whole ∷ []
upto_between_two_ends = refl

upto_all : upto swapped (len swapped) ≡ swapped
upto_all = refl

-- acts that build a state, and acts of which one is refused: by its place, or by its line
acts_that_build : built empty (VlanAdd 10 (codes "web") ∷ PortAdd 1 10 ∷ []) ≡ Ok (state (VlanAdd 10 (codes "web") ∷ PortAdd 1 10 ∷ []))
acts_that_build = refl

second_act_refused : built empty (VlanAdd 10 (codes "web") ∷ PortAdd 1 11 ∷ PortUp 7 ∷ []) ≡ Err (1, NoVlan)
second_act_refused = refl

act_on_line_seven_refused : laid empty ((4, VlanAdd 10 (codes "web")) ∷ (7, PortUp 1) ∷ []) ≡ Err (7, NoPort)
act_on_line_seven_refused = refl
