-- A run that was judged, and an edit that was finished.
use Rattle.std.proofs.Common.{◌≡◌, ◌≤◌, ◌<◌, ◌+◌, suc, Bool, true, false, cond, List, [], ◌∷◌, ◌++◌, ◌||◌, length, slice_index_or, refl, sym, ap, subst, ◌∙◌, arith}
use Rattle.std.specs.List.{list_any}
use Rattle.journal_laws.specs.Settling.{after_run}
use Rattle.net_types.specs.declared.table.Table.{Table}
use Rattle.node_map.specs.Map.{MapView}
use Rattle.switch_model.specs.declared.act.Submission.{Submission}
use Rattle.switch_model.specs.declared.record.FibEntry.{FibEntry}
use Rattle.switch_model.specs.declared.verdict.Verdict.{Verdict}
use Rattle.switch_model.specs.declared.verdict.Verdict.TheVariants.{Full}
use Rattle.switch_model.specs.Journal.{after_verdict}
use Rattle.switch_model.specs.PlainState.{PlainState}
use Rattle.switch_model.specs.Reason.{reason}
use Rattle.switch_model.specs.Round.{is_accepted, verdict_in_run, with_verdicts}
use Rattle.switch_state.specs.Edit.{EditView}
use Rattle.switch_state.specs.Follows.{Follows}
use Rattle.switch_state.specs.StateView.{StateView}
use Rattle.core_laws.proofs.JudgedLaws.{run-judged}
use Rattle.core_laws.specs.Judged.{accepts, after_judged}
use Rattle.core_laws.specs.Rounds.{refused_first}

-- whether some update was accepted

any_by : (b c d : Bool) → c ≡ d → cond b true c ≡ (b || d)
any_by true c d e = refl
any_by false c d e = e

any_accepted : (xs : List (Submission × Verdict)) → accepts xs ≡ list_any (λ (x : Submission × Verdict). is_accepted x.1) xs
any_accepted [] = refl
any_accepted (x ∷ xs) = any_by (is_accepted x.1) (accepts xs) (list_any (λ (y : Submission × Verdict). is_accepted y.1) xs) (any_accepted xs)

pub some_accepted : (xs : List (Submission × Verdict)) (b : Bool) → b ≡ list_any (λ (x : Submission × Verdict). is_accepted x.1) xs → accepts xs ≡ b
some_accepted xs b is = any_accepted xs ∙ sym is

-- a run that was judged

judged_length : (m : PlainState) (q : List Submission) → length (with_verdicts m q) ≡ length q
judged_length m [] = refl
judged_length m (s ∷ ss) = ap suc (judged_length (after_verdict m s.update (verdict_in_run (reason m s.update))) ss)

pub judged_count : (m : PlainState) (q : List Submission) (xs : List (Submission × Verdict)) → xs ≡ with_verdicts m q → length xs ≡ length q
judged_count m q xs are = ap length are ∙ judged_length m q

pub judged_plain : (m n o : PlainState) (q : List Submission) (xs : List (Submission × Verdict)) → m ≡ n → xs ≡ with_verdicts m q → o ≡ after_run m q → o ≡ after_judged n xs
judged_plain m n o q xs same are done =
    done ∙ sym (run-judged m q) ∙ ap (λ (l : List (Submission × Verdict)). after_judged m l) (sym are) ∙ ap (λ (x : PlainState). after_judged x xs) same

pub judged_there : (m n : PlainState) (q : List Submission) (xs : List (Submission × Verdict)) → m ≡ n → xs ≡ with_verdicts m q → xs ≡ with_verdicts n q
judged_there m n q xs same are = are ∙ ap (λ (x : PlainState). with_verdicts x q) same

-- an edit that was finished

pub later_follows : (new old : EditView) (s result : StateView) (f : MapView FibEntry) → new ≡ record old { state = record old.state { fibs = f } } → old.base ≡ s → old.state.version ≡ s.version + 1 → (new.base.version < new.state.version → Follows new.base result) → Follows s result
later_follows new old s result f others base version follows =
    let base_is : new.base ≡ s = ap (λ (e : EditView). e.base) others ∙ base in
    let same : new.base.version ≡ s.version = ap (λ (x : StateView). x.version) base_is in
    let later : new.state.version ≡ s.version + 1 = ap (λ (e : EditView). e.state.version) others ∙ version in
    let below : new.base.version < new.state.version = omega (arith, same, later) in
    subst (λ (x : StateView). Follows x result) base_is (follows below)

-- the first of a run, refused

pub refused_is : (t : Table) (q : List Submission) (s first : Submission) (xs none : List (Submission × Verdict)) → 1 ≤ length q → s ≡ slice_index_or q 0 s → first ≡ s → none ≡ [] → xs ≡ none ++ (first, Full t) ∷ [] → xs ≡ refused_first t q
refused_is t [] s first xs none some is copied empty are = absurd (omega (arith, some))
refused_is t (x ∷ q) s first xs none some is copied empty are = are ∙ ap (λ (l : List (Submission × Verdict)). l ++ (first, Full t) ∷ []) empty ∙ ap (λ (y : Submission). (y, Full t) ∷ []) (copied ∙ is)

pub refused_count : (t : Table) (q : List Submission) (xs : List (Submission × Verdict)) → 1 ≤ length q → xs ≡ refused_first t q → length xs ≡ 1
refused_count t [] xs some are = absurd (omega (arith, some))
refused_count t (x ∷ q) xs some are = ap length are
