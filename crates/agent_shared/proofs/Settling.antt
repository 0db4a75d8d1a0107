-- A loaded run is settled.
use Rattle.std.proofs.Common.{◌≡◌, ◌≤◌, ◌<◌, ◌+◌, ℕ, true, Some, List, [], ◌∷◌, ◌++◌, length, slice_get, sym, ap, subst, ◌∙◌}
use Rattle.std.proofs.lemmas.List.{length-map}
use Rattle.keyed.specs.Prefix.{IsPrefix, prefix_self, prefix_trans}
use Rattle.core_laws.specs.Published.{PublishedView, journal_of}
use Rattle.switch_model.specs.declared.act.Submission.{Submission}
use Rattle.switch_model.specs.declared.journal.Entry.{Entry}
use Rattle.switch_model.specs.declared.journal.Round.{Round}
use Rattle.switch_model.specs.declared.verdict.Verdict.{Verdict}
use Rattle.switch_model.specs.Journal.{Journal, entries, len, strip, submission_of, with_round}
use Rattle.switch_model.specs.Legal.{IsRun}
use Rattle.switch_model.specs.MayComeOf.{SettlesNext}
use Rattle.switch_model.specs.Round.{next_round}
use Rattle.agent_shared.specs.Views.{IsNextPublished}
use Rattle.shared_laws.proofs.AnswerLaws.{answer_found}
use Rattle.shared_laws.proofs.DeskLaws.{loaded_front, loaded_run, run_fits, run_settles}
use Rattle.shared_laws.specs.Calls.{IsAnswer, IsTaken}
use Rattle.shared_laws.specs.Callers.{Grew, Seen}
use Rattle.shared_laws.specs.Ground.{DeskView, GroundView, IsDesk, IsSoFar, SideView, journal_at, submissions_of}

-- a run that was loaded, and that has a member, is a run
pub taken_run : (g : GroundView) (seen : List Submission) (jseen : List Round) (most : ℕ) (s : SideView) → IsTaken seen (journal_at g jseen) most s.run true → IsRun s.run
taken_run g seen jseen most s taken = loaded_run seen (journal_at g jseen) s.run taken.0 taken.1

pub side_journal : (g : GroundView) (jseen : List Round) (s : SideView) → s.basis ≡ g → s.rounds ≡ jseen → journal_at s.basis s.rounds ≡ journal_at g jseen
side_journal g jseen s basis rounds = λ i. journal_at (basis i) (rounds i)

-- and it fits behind the journal
pub taken_fits : (g : GroundView) (seen : List Submission) (jseen : List Round) (most : ℕ) (s : SideView) → s.basis ≡ g → s.rounds ≡ jseen → IsSoFar g seen jseen → IsTaken seen (journal_at g jseen) most s.run true → len (journal_at s.basis s.rounds) + length s.run ≤ s.basis.limit
taken_fits g seen jseen most s basis rounds so_far taken =
    let here : len (journal_at g jseen) + length s.run ≤ g.limit = run_fits g seen s.run jseen so_far (loaded_front seen (journal_at g jseen) s.run taken.0) in
    subst (λ (x : GroundView). len (journal_at x s.rounds) + length s.run ≤ x.limit) (sym basis) (subst (λ (l : List Round). len (journal_at g l) + length s.run ≤ g.limit) (sym rounds) here)

-- what is published after it is next at the desk, where more may have been submitted since
abbrev pub next_published : (g : GroundView) (d : DeskView) (p : PublishedView) (old new : SideView) (seen : List Submission) (jseen : List Round) (most k : ℕ) → d.basis ≡ g → d.rounds ≡ jseen → IsPrefix seen d.sent → old.basis ≡ g → old.rounds ≡ jseen → IsTaken seen (journal_at g jseen) most old.run true
    → new ≡ record old { rounds = old.rounds ++ next_round (journal_at old.basis old.rounds) old.run ∷ [] } → journal_of p ≡ journal_at new.basis new.rounds → length (next_round (journal_at old.basis old.rounds) old.run).entries ≡ k → IsNextPublished d p k
next_published g d p old new seen jseen most k d_basis d_rounds grew s_basis s_rounds taken new_is published size =
    let q : List Submission = old.run in
    let j : Journal = journal_at g jseen in
    let at_desk : journal_at d.basis d.rounds ≡ j = λ i. journal_at (d_basis i) (d_rounds i) in
    let at_side : journal_at old.basis old.rounds ≡ j = side_journal g jseen old s_basis s_rounds in
    let is : IsRun q = loaded_run seen j q taken.0 taken.1 in
    let front : IsPrefix (strip j ++ q) d.sent = prefix_trans (strip j ++ q) seen d.sent (loaded_front seen j q taken.0) grew in
    let next : SettlesNext d.sent j (next_round j q) = run_settles d.sent j q is front in
    record {
      round = next_round j q;
      next = subst (λ (x : Journal). SettlesNext d.sent x (next_round j q)) (sym at_desk) next;
      journal = published ∙ (ap (λ (s : SideView). journal_at s.basis s.rounds) new_is ∙ (ap (λ (x : Journal). with_round x (next_round x q)) at_side ∙ sym (ap (λ (x : Journal). with_round x (next_round j q)) at_desk)));
      size = sym (ap (λ (x : Journal). length (next_round x q).entries) at_side) ∙ size;
    }

-- the rounds that are published then
pub next_rounds : (g : GroundView) (d : DeskView) (p : PublishedView) (jseen : List Round) (k : ℕ) → d.rounds ≡ jseen → (n : IsNextPublished d p k) → p.rounds ≡ jseen ++ n.round ∷ []
next_rounds g d p jseen k rounds n = ap (λ (j : Journal). j.rounds) n.journal ∙ ap (λ (l : List Round). l ++ n.round ∷ []) rounds

-- how many it settles
pub next_size : (d : DeskView) (p : PublishedView) (k : ℕ) → (n : IsNextPublished d p k) → length (submissions_of n.round) ≡ k
next_size d p k n = length-map n.round.entries submission_of ∙ n.size

-- a desk's pass as it is put back

pub so_far_at : (g : GroundView) (d : DeskView) (p : Seen) → d.basis ≡ g → p.seen ≡ d.sent → p.jseen ≡ d.rounds → IsDesk d → IsSoFar g p.seen p.jseen
so_far_at g d p basis seen jseen is =
    subst (λ (x : GroundView). IsSoFar x p.seen p.jseen) basis (subst (λ (l : List Submission). IsSoFar d.basis l p.jseen) (sym seen) (subst (λ (l : List Round). IsSoFar d.basis d.sent l) (sym jseen) is.so_far))

-- what a pass has seen after a round that it counted
pub round_grew : (p q : Seen) (sent : List Submission) (r : Round) (n : ℕ) → IsPrefix p.seen sent → q.seen ≡ sent → q.jseen ≡ p.jseen ++ r ∷ [] → q.rounds ≡ p.rounds ++ n ∷ [] → Grew p q
round_grew p q sent r n grew seen jseen rounds = record {
  seen = subst (IsPrefix p.seen) (sym seen) grew;
  jseen = (r ∷ [], jseen);
  rounds = (n ∷ [], rounds);
}

-- what a pass has seen after it held the desk
pub held_grew : (p q : Seen) (sent : List Submission) (done : List Round) → IsPrefix p.seen sent → IsPrefix p.jseen done → q.seen ≡ sent → q.jseen ≡ done → q.rounds ≡ p.rounds → Grew p q
held_grew p q sent done more later seen jseen rounds = record {
  seen = subst (IsPrefix p.seen) (sym seen) more;
  jseen = subst (IsPrefix p.jseen) (sym jseen) later;
  rounds = subst (IsPrefix p.rounds) (sym rounds) (prefix_self p.rounds);
}

-- the same, where it held the chip side too
pub chip_held_grew : (p m q : Seen) (sent : List Submission) (done side : List Round) → m.seen ≡ p.seen → m.jseen ≡ side → IsPrefix p.jseen side → IsPrefix m.seen sent → IsPrefix m.jseen done → q.seen ≡ sent → q.jseen ≡ done → q.rounds ≡ p.rounds → Grew p q
chip_held_grew p m q sent done side same is grew more later seen jseen rounds =
    let from : IsPrefix p.jseen m.jseen = subst (IsPrefix p.jseen) (sym is) grew in
    held_grew p q sent done (subst (λ (l : List Submission). IsPrefix l sent) same more) (prefix_trans p.jseen m.jseen done from later) seen jseen rounds

-- what is found at the desk is the answer to a ticket
pub desk_answers : (g : GroundView) (d : DeskView) (old : List Submission) (jseen : List Round) (position : ℕ) (verdict : Verdict) (version front : ℕ) → d.basis ≡ g → jseen ≡ d.rounds → IsDesk d → IsPrefix old d.sent → position < length old
    → (e : Entry) × (slice_get (entries (journal_at d.basis d.rounds)) position ≡ Some e) × (verdict ≡ e.verdict) × (version ≡ e.version) → front ≡ len (journal_at d.basis d.rounds) → IsAnswer old (journal_at g jseen) position verdict version front
desk_answers g d old jseen position verdict version front basis rounds is grew below found e =
    let here = answer_found old d.sent (journal_at d.basis d.rounds) position found.0 verdict version front grew is.so_far.may_come below found.1 found.2 found.3 e in
    subst (λ (l : List Round). IsAnswer old (journal_at g l) position verdict version front) (sym rounds) (subst (λ (x : GroundView). IsAnswer old (journal_at x d.rounds) position verdict version front) basis here)
