-- What one more round does to what is published.
use Rattle.std.proofs.Common.{◌≡◌, ◌+◌, ℕ, true, false, Option, Some, None, List, [], ◌∷◌, ◌++◌, map, refl, sym, ap, subst, ◌∙◌, arith}
use Rattle.chip_core.specs.declared.changes.RowChanges.{RowChanges}
use Rattle.journal_laws.proofs.EndLaws.{journal_prefix_push}
use Rattle.journal_laws.proofs.RoundLaws.{fold_push, version_push}
use Rattle.journal_laws.proofs.SettledLaws.{whole_state}
use Rattle.journal_laws.specs.Settling.{after_run}
use Rattle.keyed.specs.Cases.{some_none}
use Rattle.net_types.specs.declared.table.Caps.{Caps}
use Rattle.net_types.specs.declared.table.Table.{Table}
use Rattle.switch_model.specs.declared.act.Submission.{Submission}
use Rattle.switch_model.specs.declared.journal.Round.{Round}
use Rattle.switch_model.specs.declared.journal.RoundKind.{RoundKind}
use Rattle.switch_model.specs.declared.journal.RoundKind.TheVariants.{One}
use Rattle.switch_model.specs.declared.verdict.Verdict.{Verdict}
use Rattle.switch_model.specs.Journal.{Journal, IsJournalPrefix, after_entries, fold, version_after, version_of, with_round}
use Rattle.switch_model.specs.PlainState.{PlainState}
use Rattle.switch_model.specs.Round.{entry_of, next_version, round_of, whole_round, with_verdicts}
use Rattle.switch_model.specs.Rows.{rows}
use Rattle.switch_state.specs.Follows.{Follows}
use Rattle.switch_state.specs.Plain.{plain}
use Rattle.switch_state.specs.StateView.{StateView}
use Rattle.state_laws.specs.Fib.{HasFib}
use Rattle.core_laws.specs.Changes.{AreChanges}
use Rattle.core_laws.specs.Judged.{accepts, after_judged}
use Rattle.core_laws.specs.Published.{IsPublished, PublishedView, journal_of}
use Rattle.core_laws.specs.Rounds.{HasRound, IsAttempt, IsRefusal, refused_first, tried_round}
use Rattle.core_laws.proofs.JudgedLaws.{after-judged, run-judged, unaccepted, version_rises, version_round_of, version_stays}

-- a round after which the state is another one
pub round_made : (kind : RoundKind) (xs : List (Submission × Verdict)) (old p : PublishedView) (s : StateView) →
    p ≡ record old { state = s; rounds = old.rounds ++ round_of kind old.state.version xs ∷ [] } →
    plain s ≡ after_judged (plain old.state) xs → s.version ≡ next_version old.state.version (map (λ (x : Submission × Verdict). x.1) xs) → Follows old.state s → (s.version ≡ old.state.version → s ≡ old.state) →
    HasRound (round_of kind old.state.version xs) old p
round_made kind xs old p s is plain_is version_is follows same = record {
  base = ap (λ (v : PublishedView). v.base) is;
  caps = ap (λ (v : PublishedView). v.caps) is;
  rounds = ap (λ (v : PublishedView). v.rounds) is;
  plain = ap (λ (v : PublishedView). plain v.state) is ∙ plain_is ∙ sym (after-judged (plain old.state) (next_version old.state.version (map (λ x. x.1) xs)) xs);
  version = ap (λ (v : PublishedView). v.state.version) is ∙ version_is ∙ sym (version_round_of kind old.state.version xs);
  follows = subst (λ (t : StateView). Follows old.state t) (sym (ap (λ (v : PublishedView). v.state) is)) follows;
  same = λ e. ap (λ (v : PublishedView). v.state) is ∙ same (sym (ap (λ (v : PublishedView). v.state.version) is) ∙ e);
}

-- what is published stands for its journal with one more round
pub journal_after : (r : Round) (old p : PublishedView) → HasRound r old p → journal_of p ≡ with_round (journal_of old) r
journal_after r old p has = rw (has.base, has.caps, has.rounds) refl

pub published_after : (kind : RoundKind) (xs : List (Submission × Verdict)) (old : PublishedView) (base s : StateView) (rounds : List Round) (caps : Caps) →
    IsPublished old → base ≡ old.base → caps ≡ old.caps → rounds ≡ old.rounds ++ (record { kind = kind; entries = map (entry_of s.version) xs }) ∷ [] → plain s ≡ after_judged (plain old.state) xs → s.version ≡ next_version old.state.version (map (λ (x : Submission × Verdict). x.1) xs) → HasFib s →
    IsPublished (record { base = base; state = s; rounds = rounds; caps = caps })
published_after kind xs old base s rounds caps is base_is caps_is rounds_are plain_is version_is fib =
    let r : Round = round_of kind old.state.version xs in
    let rounds_is : rounds ≡ old.rounds ++ r ∷ [] = rounds_are ∙ ap (λ (v : ℕ). old.rounds ++ (record { kind = kind; entries = map (entry_of v) xs }) ∷ []) version_is in
    let p : PublishedView = record { base = base; state = s; rounds = rounds; caps = caps } in
    let journal_is : journal_of p ≡ with_round (journal_of old) r = rw (base_is, caps_is, rounds_is) refl in
    record {
      plain = plain_is ∙ sym (after-judged (plain old.state) (next_version old.state.version (map (λ x. x.1) xs)) xs) ∙ ap (λ (m : PlainState). after_entries m r.entries) is.plain ∙ sym (fold_push (journal_of old) r) ∙ sym (ap fold journal_is);
      version = version_is ∙ sym (version_round_of kind old.state.version xs) ∙ ap (λ (v : ℕ). version_after v r.entries) is.version ∙ sym (version_push (journal_of old) r) ∙ sym (ap version_of journal_is);
      fib = fib;
    }

pub journal_begins : (r : Round) (old p : PublishedView) → HasRound r old p → IsJournalPrefix (journal_of old) (journal_of p)
journal_begins r old p has = subst (λ (k : Journal). IsJournalPrefix (journal_of old) k) (sym (journal_after r old p has)) (journal_prefix_push (journal_of old) r)

-- the state after the whole run
pub whole_plain : (q : List Submission) (old p : PublishedView) → HasRound (whole_round (plain old.state) old.state.version q) old p → plain p.state ≡ after_run (plain old.state) q
whole_plain q old p has = has.plain ∙ whole_state (plain old.state) old.state.version q

-- the state after the run that was tried, as one of either kind
pub run_plain : (kind : RoundKind) (q : List Submission) (old p : PublishedView) → HasRound (tried_round kind old q) old p → plain p.state ≡ after_run (plain old.state) q
run_plain kind q old p has = has.plain ∙ after-judged (plain old.state) (next_version old.state.version (map (λ (x : Submission × Verdict). x.1) (with_verdicts (plain old.state) q))) (with_verdicts (plain old.state) q) ∙ run-judged (plain old.state) q

-- attempts

-- some update was accepted
pub attempt_some : (kind : RoundKind) (xs : List (Submission × Verdict)) (old next share : PublishedView) (s : StateView) (changes : RowChanges) → accepts xs ≡ true →
    next ≡ record old { state = s; rounds = old.rounds ++ round_of kind old.state.version xs ∷ [] } → share ≡ next → plain s ≡ after_judged (plain old.state) xs → s.version ≡ old.state.version + 1 → Follows old.state s → AreChanges (rows (plain old.state)) (rows (plain s)) changes →
    IsAttempt (round_of kind old.state.version xs) old next share (Some changes)
attempt_some kind xs old next share s changes some is share_is plain_is later follows are = record {
  round = round_made kind xs old next s is plain_is (later ∙ version_rises old.state.version xs some) follows (λ e. absurd (omega (arith, e, later)));
  shared = share_is;
  kept = λ e. absurd (some_none e);
  listed = record {
    rows = subst (λ (t : StateView). AreChanges (rows (plain old.state)) (rows (plain t)) changes) (sym (ap (λ (v : PublishedView). v.state) is)) are;
    later = ap (λ (v : PublishedView). v.state.version) is ∙ later;
  };
}

-- none was
pub attempt_none : (kind : RoundKind) (xs : List (Submission × Verdict)) (old next share : PublishedView) (s : StateView) → accepts xs ≡ false →
    next ≡ record old { state = s; rounds = old.rounds ++ round_of kind old.state.version xs ∷ [] } → share ≡ next → s ≡ old.state → Follows old.state old.state →
    IsAttempt (round_of kind old.state.version xs) old next share None
attempt_none kind xs old next share s none is share_is s_is follows = record {
  round = round_made kind xs old next s is (ap (λ (t : StateView). plain t) s_is ∙ sym (unaccepted (plain old.state) xs none)) (ap (λ (t : StateView). t.version) s_is ∙ version_stays old.state.version xs none) (subst (λ (t : StateView). Follows old.state t) (sym s_is) follows) (λ _. s_is);
  shared = share_is;
  kept = λ _. ap (λ (v : PublishedView). v.state) is ∙ s_is;
  listed = tt;
}

refused_none : (t : Table) (q : List Submission) → accepts (refused_first t q) ≡ false
refused_none t [] = refl
refused_none t (s ∷ ss) = refl

-- the first of a run was refused
pub refusal_made : (t : Table) (q : List Submission) (xs : List (Submission × Verdict)) (old next share : PublishedView) (s : StateView) → xs ≡ refused_first t q →
    next ≡ record old { state = s; rounds = old.rounds ++ round_of One old.state.version xs ∷ [] } → share ≡ next → s ≡ old.state → Follows old.state old.state →
    IsRefusal t q old next share
refusal_made t q xs old next share s xs_are is share_is s_is follows =
    let none : accepts xs ≡ false = ap accepts xs_are ∙ refused_none t q in
    let made = attempt_none One xs old next share s none is share_is s_is follows in
    record {
      round = subst (λ (l : List (Submission × Verdict)). HasRound (round_of One old.state.version l) old next) xs_are made.round;
      shared = share_is;
      kept = ap (λ (v : PublishedView). v.state) is ∙ s_is;
    }

pub refused_plain : (t : Table) (q : List Submission) (xs : List (Submission × Verdict)) (m : PlainState) → xs ≡ refused_first t q → m ≡ after_judged m xs
refused_plain t q xs m are = sym (unaccepted m xs (ap accepts are ∙ refused_none t q))

pub refused_version : (t : Table) (q : List Submission) (xs : List (Submission × Verdict)) (v : ℕ) → xs ≡ refused_first t q → v ≡ next_version v (map (λ (x : Submission × Verdict). x.1) xs)
refused_version t q xs v are = version_stays v xs (ap accepts are ∙ refused_none t q)

-- judged updates of a run, as a round that was tried
pub attempt_of : (kind : RoundKind) (q : List Submission) (xs : List (Submission × Verdict)) (old : PublishedView) (next share : PublishedView) (changes : Option RowChanges) → xs ≡ with_verdicts (plain old.state) q → IsAttempt (round_of kind old.state.version xs) old next share changes → IsAttempt (tried_round kind old q) old next share changes
attempt_of kind q xs old next share changes are is = subst (λ (l : List (Submission × Verdict)). IsAttempt (round_of kind old.state.version l) old next share changes) are is
