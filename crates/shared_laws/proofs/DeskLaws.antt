-- A desk, with one submission or one round more.
use Rattle.std.proofs.Common.{◌≡◌, ◌≤◌, ◌<◌, ◌+◌, ◌^◌, ℕ, List, [], ◌∷◌, ◌++◌, length, drop, refl, sym, ap, subst, ◌∙◌, length-append, arith}
use Rattle.std.proofs.lemmas.List.{drop_at, length-map}
use Rattle.std.specs.List.{flat_map}
use Rattle.keyed.specs.Prefix.{IsPrefix, prefix_after, prefix_length}
use Rattle.switch_model.specs.declared.act.Submission.{Submission}
use Rattle.switch_model.specs.declared.journal.Round.{Round}
use Rattle.switch_model.specs.Journal.{Journal, len, pending, strip, submission_of, version_of, with_round}
use Rattle.switch_model.specs.Legal.{IsLegal, IsRun}
use Rattle.switch_model.specs.MayComeOf.{MayComeOf, SettlesNext}
use Rattle.switch_model.specs.Round.{next_round, run}
use Rattle.journal_laws.proofs.LegalLaws.{legal_rounds, legal_version, next_settles_run}
use Rattle.journal_laws.proofs.MayComeLaws.{may_come_prefix, may_come_round, may_come_start, pending_next, sent_split, settles_loaded}
use Rattle.journal_laws.proofs.RoundLaws.{length-strip, strip_flat}
use Rattle.journal_laws.proofs.RunLaws.{run_is_run, run_prefix}
use Rattle.net_types.specs.Capacity.{Fits}
use Rattle.switch_model.specs.Rows.{rows}
use Rattle.shared_laws.specs.Calls.{IsLoaded}
use Rattle.shared_laws.specs.Ground.{GroundView, HasRoom, IsDesk, IsSoFar, journal_at, submissions_of}

-- what stands behind all that is settled is what is pending
pub pending_is : (j : Journal) (waiting sent : List Submission) → sent ≡ strip j ++ waiting → pending sent j ≡ waiting
pending_is j waiting sent e =
    ap (drop (len j)) e ∙ (ap (λ (k : ℕ). drop k (strip j ++ waiting)) (sym (length-strip j)) ∙ drop_at (strip j) waiting (length (strip j)) refl)

-- a run isn't empty
pub run_has : (q : List Submission) → IsRun q → 1 ≤ length q
run_has [] is = absurd (is.0 refl)
run_has (s ∷ ss) is = omega arith

-- a run of what was pending settles next, also where more was sent since
pub run_settles : (sent : List Submission) (j : Journal) (q : List Submission) → IsRun q → IsPrefix (strip j ++ q) sent → SettlesNext sent j (next_round j q)
run_settles sent j q is front =
    subst (λ (p : List Submission). SettlesNext sent j (next_round j p)) is.1 (settles_loaded sent j q front (run_has q is))

loaded_some : (waiting q : List Submission) → q ≡ run waiting → 1 ≤ length q → 1 ≤ length waiting
loaded_some [] q e some = absurd (let none : length q ≡ 0 = ap length e in omega (arith, none, some))
loaded_some (s ∷ ss) q e some = omega arith

-- what was loaded, if anything, is a run
pub loaded_run : (sent : List Submission) (j : Journal) (q : List Submission) → IsLoaded sent j q → 1 ≤ length q → IsRun q
loaded_run sent j q is some = subst IsRun (sym is.run_is) (run_is_run is.pending (loaded_some is.pending q is.run_is some))

-- and is the first of what is pending
pub loaded_front : (sent : List Submission) (j : Journal) (q : List Submission) → IsLoaded sent j q → IsPrefix (strip j ++ q) sent
loaded_front sent j q is =
    subst (IsPrefix (strip j ++ q)) (sym is.all) (prefix_after (strip j) q is.pending (subst (λ (p : List Submission). IsPrefix p is.pending) (sym is.run_is) (run_prefix is.pending)))

-- what a round leaves pending
pub round_leaves : (j : Journal) (r : Round) (waiting rest sent : List Submission) → sent ≡ strip j ++ waiting → MayComeOf sent j → SettlesNext sent j r → rest ≡ drop (length r.entries) waiting → strip (with_round j r) ++ rest ≡ sent
round_leaves j r waiting rest sent e may next is =
    let k : Journal = with_round j r in
    let parts : waiting ≡ submissions_of r ++ pending sent k = sym (pending_is j waiting sent e) ∙ pending_next sent j r may next in
    let left : rest ≡ pending sent k = is ∙ (ap (drop (length r.entries)) parts ∙ drop_at (submissions_of r) (pending sent k) (length r.entries) (length-map r.entries submission_of)) in
    ap (λ (w : List Submission). strip k ++ w) left ∙ sym (sent_split sent k (may_come_round sent j r may next).settled)

-- where nothing was sent
pub desk_starts : (g : GroundView) → Fits (rows g.opening.state) g.opening.caps → HasRoom g → IsDesk (record { basis = g; sent = []; rounds = [] })
desk_starts g fits room = record { so_far = record { may_come = may_come_start g.opening [] fits; few = omega arith }; room = room }

-- one submission more
pub desk_grows : (g : GroundView) (sent more : List Submission) (rounds : List Round) (s : Submission) → more ≡ sent ++ s ∷ [] → length sent < g.limit → IsDesk (record { basis = g; sent = sent; rounds = rounds }) → IsDesk (record { basis = g; sent = more; rounds = rounds })
desk_grows g sent more rounds s e below d = record {
  so_far = record {
    may_come = may_come_prefix sent more (journal_at g rounds) (s ∷ [], e) d.so_far.may_come;
    few = omega (arith, ap length e, length-append sent (s ∷ []), below);
  };
  room = d.room;
}

-- one round more
pub desk_settles : (g : GroundView) (sent : List Submission) (rounds more : List Round) (r : Round) → more ≡ rounds ++ r ∷ [] → SettlesNext sent (journal_at g rounds) r → IsDesk (record { basis = g; sent = sent; rounds = rounds }) → IsDesk (record { basis = g; sent = sent; rounds = more })
desk_settles g sent rounds more r e next d = record {
  so_far = record {
    may_come = subst (λ (l : List Round). MayComeOf sent (journal_at g l)) (sym e) (may_come_round sent (journal_at g rounds) r d.so_far.may_come next);
    few = d.so_far.few;
  };
  room = d.room;
}

-- what the book is told of a desk
pub desk_settled : (g : GroundView) (sent : List Submission) (rounds : List Round) → IsSoFar g sent rounds → IsPrefix (flat_map submissions_of rounds) sent
desk_settled g sent rounds d = subst (λ (l : List Submission). IsPrefix l sent) (strip_flat rounds) d.may_come.settled

-- all that is settled was sent
pub settled_within : (g : GroundView) (sent : List Submission) (rounds : List Round) → IsSoFar g sent rounds → len (journal_at g rounds) ≤ length sent
settled_within g sent rounds d = omega (arith, prefix_length (strip (journal_at g rounds)) sent d.may_come.settled, length-strip (journal_at g rounds))

-- a run of what was sent fits behind the journal
pub run_fits : (g : GroundView) (sent q : List Submission) (rounds : List Round) → IsSoFar g sent rounds → IsPrefix (strip (journal_at g rounds) ++ q) sent → len (journal_at g rounds) + length q ≤ g.limit
run_fits g sent q rounds d front =
    let j : Journal = journal_at g rounds in
    omega (arith, prefix_length (strip j ++ q) sent front, length-append (strip j) q, length-strip j, d.few)

-- and so does its version
pub version_fits : (g : GroundView) (rounds : List Round) (n : ℕ) → IsLegal (journal_at g rounds) → HasRoom g → 1 ≤ n → len (journal_at g rounds) + n ≤ g.limit → version_of (journal_at g rounds) + 1 < 2 ^ 64
version_fits g rounds n legal room some fits =
    let j : Journal = journal_at g rounds in
    omega (arith, (legal_version j legal).1, legal_rounds j legal, room, some, fits)

-- the round that comes next has an entry
pub next_has : (j : Journal) (q : List Submission) → IsLegal j → IsRun q → 1 ≤ length (next_round j q).entries
next_has j q legal is = (next_settles_run j q legal is).some
