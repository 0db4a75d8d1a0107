-- The updates of a run, one after another.
use Rattle.std.proofs.Common.{◌≡◌, ◌≤◌, ◌<◌, ◌+◌, ℕ, zero, suc, Option, None, Some, List, [], ◌∷◌, ◌++◌, length, map, drop, refl, sym, ap, ◌∙◌, subst, arith, add-one, get_or, append_assoc, append-nil}
use Rattle.journal_laws.specs.Settling.{after_run}
use Rattle.state_update.specs.declared.update.Applied.TheVariants as applied
use Rattle.state_update.specs.Applied.{outcome}
use Rattle.switch_model.specs.declared.act.Submission.{Submission}
use Rattle.switch_model.specs.declared.act.Update.{Update}
use Rattle.switch_model.specs.declared.verdict.Reason.{Reason}
use Rattle.switch_model.specs.declared.verdict.Verdict.{Verdict}
use Rattle.switch_model.specs.declared.verdict.Verdict.TheVariants.{Accepted, Invalid}
use Rattle.switch_model.specs.Effect.{effect}
use Rattle.switch_model.specs.Journal.{after_verdict}
use Rattle.switch_model.specs.PlainState.{PlainState}
use Rattle.switch_model.specs.Reason.{reason}
use Rattle.switch_model.specs.Round.{verdict_in_run, with_verdicts}
use Rattle.switch_model.specs.Touched.{Touched, touched, touched_both, touched_run, touched_verdict, untouched}
use Rattle.switch_model.proofs.TouchedRuns.{both_assoc, both_none}
use Rattle.switch_state.proofs.OnPaths.{parts_after, parts_none}
use Rattle.switch_state.specs.Edit.{EditView}
use Rattle.switch_state.specs.Paths.{PartsMade}
use Rattle.switch_state.specs.Plain.{plain}
use Rattle.switch_state.specs.StateView.{StateView}

-- what `apply` answers, as a verdict

same_reason : {r s : Reason} → applied.Invalid r ≡ applied.Invalid s → s ≡ r
same_reason h = cc

never_changed : {r : Reason} → applied.Changed ≡ applied.Invalid r → ⊥
never_changed h = cc

never_invalid : {r : Reason} → applied.Invalid r ≡ applied.Changed → ⊥
never_invalid h = cc

pub invalid_by : (o : Option Reason) (r : Reason) → applied.Invalid r ≡ outcome o → Invalid r ≡ verdict_in_run o
invalid_by None r is = absurd (never_changed (sym is))
invalid_by (Some s) r is = ap Invalid (same_reason (sym is))

pub accepted_by : (o : Option Reason) → applied.Changed ≡ outcome o → Accepted ≡ verdict_in_run o
accepted_by None is = refl
accepted_by (Some r) is = absurd (never_changed is)

pub accepted_plain : (m n : PlainState) (update : Update) (v : Verdict) → Accepted ≡ v → n ≡ effect m update.act → n ≡ after_verdict m update v
accepted_plain m n update v is done = subst (λ (w : Verdict). n ≡ after_verdict m update w) is done

pub invalid_plain : (m n : PlainState) (update : Update) (r : Reason) (v : Verdict) → Invalid r ≡ v → n ≡ m → n ≡ after_verdict m update v
invalid_plain m n update r v is stays = subst (λ (w : Verdict). n ≡ after_verdict m update w) is stays

pub accepted_paths : (version : ℕ) (m : PlainState) (update : Update) (v : Verdict) (old new : StateView) → Accepted ≡ v → PartsMade version (touched m update.act) old new → PartsMade version (touched_verdict m update v) old new
accepted_paths version m update v old new is paths = subst (λ (w : Verdict). PartsMade version (touched_verdict m update w) old new) is paths

pub invalid_paths : (version : ℕ) (m : PlainState) (update : Update) (r : Reason) (v : Verdict) (old new : StateView) → Invalid r ≡ v → new ≡ old → PartsMade version (touched_verdict m update v) old new
invalid_paths version m update r v old new is stays =
    subst (λ (w : Verdict). PartsMade version (touched_verdict m update w) old new) is (subst (λ (s : StateView). PartsMade version untouched old s) (sym stays) (parts_none version untouched old))

-- so many are judged and done

abbrev pub touched_by : PlainState → List Submission → Touched
touched_by m q = touched_run m (map (λ s. s.update) q)

pub record IsJudging (run : List Submission) (i : ℕ) (xs : List (Submission × Verdict)) (start now : EditView) : Type 0 where
  pub judged : xs ++ with_verdicts (plain now.state) (drop i run) ≡ with_verdicts (plain start.state) run
  pub after : after_run (plain now.state) (drop i run) ≡ after_run (plain start.state) run
  pub keys : Touched
  pub touched : touched_both keys (touched_by (plain now.state) (drop i run)) ≡ touched_by (plain start.state) run
  pub paths : PartsMade start.state.version keys start.state now.state
  pub base : now.base ≡ start.base
  pub version : now.state.version ≡ start.state.version
  pub fibs : now.state.fibs ≡ start.state.fibs

judging_first : (run : List Submission) (start : EditView) → IsJudging run 0 [] start start
judging_first run start = record {
  judged = refl;
  after = refl;
  keys = untouched;
  touched = refl;
  paths = parts_none start.state.version untouched start.state;
  base = refl;
  version = refl;
  fibs = refl;
}

judging_more : (run : List Submission) (i : ℕ) (xs ys : List (Submission × Verdict)) (start now next : EditView) (s : Submission) (v : Verdict) → IsJudging run i xs start now → drop i run ≡ s ∷ drop (i + 1) run → ys ≡ xs ++ (s, v) ∷ [] →
    v ≡ verdict_in_run (reason (plain now.state) s.update) → plain next.state ≡ after_verdict (plain now.state) s.update (verdict_in_run (reason (plain now.state) s.update)) →
    PartsMade now.state.version (touched_verdict (plain now.state) s.update (verdict_in_run (reason (plain now.state) s.update))) now.state next.state → next.base ≡ now.base → next.state.version ≡ now.state.version → next.state.fibs ≡ now.state.fibs →
    IsJudging run (i + 1) ys start next
judging_more run i xs ys start now next s v is first ys_are verdict_is done made base version fibs =
    let m : PlainState = plain now.state in
    let w : Verdict = verdict_in_run (reason m s.update) in
    let rest : List Submission = drop (i + 1) run in
    let t : Touched = touched_verdict m s.update w in
    record {
      judged = ap (λ (l : List (Submission × Verdict)). l ++ with_verdicts (plain next.state) rest) ys_are ∙ append_assoc xs ((s, v) ∷ []) (with_verdicts (plain next.state) rest)
          ∙ ap (λ (x : Verdict). xs ++ (s, x) ∷ with_verdicts (plain next.state) rest) verdict_is
          ∙ ap (λ (n : PlainState). xs ++ (s, w) ∷ with_verdicts n rest) done
          ∙ ap (λ (l : List Submission). xs ++ with_verdicts m l) (sym first) ∙ is.judged;
      after = ap (λ (n : PlainState). after_run n rest) done ∙ ap (λ (l : List Submission). after_run m l) (sym first) ∙ is.after;
      keys = touched_both is.keys t;
      touched = both_assoc is.keys t (touched_by (plain next.state) rest)
          ∙ ap (λ (n : PlainState). touched_both is.keys (touched_both t (touched_by n rest))) done
          ∙ ap (λ (l : List Submission). touched_both is.keys (touched_by m l)) (sym first) ∙ is.touched;
      paths = parts_after start.state.version is.keys t start.state now.state next.state is.paths (subst (λ (n : ℕ). PartsMade n t now.state next.state) is.version made);
      base = base ∙ is.base;
      version = version ∙ is.version;
      fibs = fibs ∙ is.fibs;
    }

first_left : (run : List Submission) (i : ℕ) (s : Submission) → i < length run → s ≡ get_or run i s → drop i run ≡ s ∷ drop (suc i) run
first_left [] i s within there = absurd (omega (arith, within))
first_left (x ∷ xs) zero s within there = ap (λ (y : Submission). y ∷ xs) (sym there)
first_left (x ∷ xs) (suc i) s within there = first_left xs i s (omega (arith, within)) there

-- the one at the place is judged, and done
pub judging_step : (run : List Submission) (i : ℕ) (xs ys : List (Submission × Verdict)) (start now next : EditView) (s copy : Submission) (u : Update) (v : Verdict) → IsJudging run i xs start now → i < length run → s ≡ get_or run i s → copy ≡ s → u ≡ s.update → ys ≡ xs ++ (copy, v) ∷ [] →
    v ≡ verdict_in_run (reason (plain now.state) u) → plain next.state ≡ after_verdict (plain now.state) u (verdict_in_run (reason (plain now.state) u)) →
    PartsMade now.state.version (touched_verdict (plain now.state) u (verdict_in_run (reason (plain now.state) u))) now.state next.state → next.base ≡ now.base → next.state.version ≡ now.state.version → next.state.fibs ≡ now.state.fibs →
    IsJudging run (i + 1) ys start next
judging_step run i xs ys start now next s copy u v is within there copied u_is ys_are verdict_is done made base version fibs =
    judging_more run i xs ys start now next s v is (rw (add-one i) (first_left run i s within there)) (ys_are ∙ ap (λ (x : Submission). xs ++ (x, v) ∷ []) copied)
    (subst (λ (x : Update). v ≡ verdict_in_run (reason (plain now.state) x)) u_is verdict_is)
    (subst (λ (x : Update). plain next.state ≡ after_verdict (plain now.state) x (verdict_in_run (reason (plain now.state) x))) u_is done)
    (subst (λ (x : Update). PartsMade now.state.version (touched_verdict (plain now.state) x (verdict_in_run (reason (plain now.state) x))) now.state next.state) u_is made)
    base version fibs

pub judging_start : (run : List Submission) (xs : List (Submission × Verdict)) (start : EditView) → xs ≡ [] → IsJudging run 0 xs start start
judging_start run xs start none = subst (λ (l : List (Submission × Verdict)). IsJudging run 0 l start start) (sym none) (judging_first run start)

-- all are

drop_past : {A : Type 0} (xs : List A) (n : ℕ) → length xs ≤ n → drop n xs ≡ []
drop_past [] zero short = refl
drop_past [] (suc n) short = refl
drop_past (x ∷ xs) zero short = absurd (omega (arith, short))
drop_past (x ∷ xs) (suc n) short = drop_past xs n (omega (arith, short))

pub judged_all : (run : List Submission) (i : ℕ) (xs : List (Submission × Verdict)) (start now : EditView) → IsJudging run i xs start now → length run ≤ i → xs ≡ with_verdicts (plain start.state) run
judged_all run i xs start now is all = sym (append-nil xs) ∙ ap (λ (l : List Submission). xs ++ with_verdicts (plain now.state) l) (sym (drop_past run i all)) ∙ is.judged

pub after_all : (run : List Submission) (i : ℕ) (xs : List (Submission × Verdict)) (start now : EditView) → IsJudging run i xs start now → length run ≤ i → plain now.state ≡ after_run (plain start.state) run
after_all run i xs start now is all = ap (λ (l : List Submission). after_run (plain now.state) l) (sym (drop_past run i all)) ∙ is.after

pub made_all : (run : List Submission) (i : ℕ) (xs : List (Submission × Verdict)) (start now : EditView) → IsJudging run i xs start now → length run ≤ i → PartsMade start.state.version (touched_by (plain start.state) run) start.state now.state
made_all run i xs start now is all =
    let none : touched_both is.keys (touched_by (plain now.state) (drop i run)) ≡ is.keys = ap (λ (l : List Submission). touched_both is.keys (touched_by (plain now.state) l)) (drop_past run i all) ∙ both_none is.keys in
    subst (λ (t : Touched). PartsMade start.state.version t start.state now.state) (sym none ∙ is.touched) is.paths
