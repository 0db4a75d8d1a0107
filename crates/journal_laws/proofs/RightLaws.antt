-- A right round is the one that its submissions give.
use Rattle.std.proofs.Common.{◌≡◌, ℕ, List, [], ◌∷◌, map, refl, sym, ap, subst, ◌∙◌}
use Rattle.std.specs.List.{AllByRecursion}
use Rattle.net_types.specs.Capacity.{over}
use Rattle.net_types.specs.declared.table.Caps.{Caps}
use Rattle.switch_model.specs.declared.act.Submission.{Submission}
use Rattle.switch_model.specs.declared.journal.Entry.{Entry}
use Rattle.switch_model.specs.declared.journal.RoundKind.TheVariants.{Whole, One}
use Rattle.switch_model.specs.declared.verdict.Verdict.{Verdict}
use Rattle.switch_model.specs.Effect.{effect}
use Rattle.switch_model.specs.Journal.{after_verdict, submission_of}
use Rattle.switch_model.specs.Legal.{AreRightInRun, IsRightAs}
use Rattle.switch_model.specs.PlainState.{PlainState}
use Rattle.switch_model.specs.Reason.{reason}
use Rattle.switch_model.specs.Round.{entry_of, with_verdicts, verdict_in_run, next_version, one_round, verdict_alone, whole_round}
use Rattle.switch_model.specs.Rows.{rows}
use Rattle.journal_laws.proofs.SettledLaws.{verdicts_of}

entry_is : (e : Entry) (verdict : Verdict) (w : ℕ) → e.verdict ≡ verdict → e.version ≡ w → e ≡ entry_of w (submission_of e, verdict)
entry_is e verdict w is at =
    ap (λ (x : Verdict). let y : Entry = record { caller = e.caller; seq = e.seq; update = e.update; verdict = x; version = e.version } in y) is
    ∙ ap (λ (n : ℕ). let y : Entry = record { caller = e.caller; seq = e.seq; update = e.update; verdict = verdict; version = n } in y) at

in_run_is : (m : PlainState) (w : ℕ) (es : List Entry) → AreRightInRun m es → AllByRecursion (λ (e : Entry). e.version ≡ w) es → es ≡ map (entry_of w) (with_verdicts m (map submission_of es))
in_run_is m w [] are at = refl
in_run_is m w (e ∷ es) are at =
    let verdict : Verdict = verdict_in_run (reason m e.update) in
    let q : List Submission = map submission_of es in
    let rest : es ≡ map (entry_of w) (with_verdicts (after_verdict m e.update verdict) q) =
    in_run_is (after_verdict m e.update e.verdict) w es are.1 at.1
    ∙ ap (λ (x : Verdict). map (entry_of w) (with_verdicts (after_verdict m e.update x) q)) are.0 in
    ap (λ (x : Entry). x ∷ es) (entry_is e verdict w are.0 at.0) ∙ ap (λ (l : List Entry). entry_of w (submission_of e, verdict) ∷ l) rest

pub right_whole : (m : PlainState) (v : ℕ) (caps : Caps) (es : List Entry) → IsRightAs Whole caps m v es → es ≡ (whole_round m v (map submission_of es)).entries
right_whole m v caps es right =
    let w : ℕ = next_version v (map (λ (e : Entry). e.verdict) es) in
    let q : List Submission = map submission_of es in
    let is : es ≡ map (entry_of w) (with_verdicts m q) = in_run_is m w es right.1 right.3 in
    let same : w ≡ next_version v (map (λ x. x.1) (with_verdicts m q)) = ap (λ (l : List Entry). next_version v (map (λ (e : Entry). e.verdict) l)) is ∙ ap (next_version v) (verdicts_of w (with_verdicts m q)) in
    is ∙ ap (λ (n : ℕ). map (entry_of n) (with_verdicts m q)) same

pub right_one : (m : PlainState) (v : ℕ) (caps : Caps) (es : List Entry) → IsRightAs One caps m v es → es ≡ (one_round m v caps (map submission_of es)).entries
right_one m v caps es right =
    let e : Entry = right.0 in
    let verdict : Verdict = verdict_alone (reason m e.update) (over (rows (effect m e.update.act)) caps) in
    let at : AllByRecursion (λ (x : Entry). x.version ≡ next_version v (map (λ (y : Entry). y.verdict) (e ∷ []))) (e ∷ []) = subst (λ (l : List Entry). AllByRecursion (λ (x : Entry). x.version ≡ next_version v (map (λ (y : Entry). y.verdict) l)) l) right.1 right.3 in
    let version : e.version ≡ next_version v (verdict ∷ []) = at.0 ∙ ap (λ (x : Verdict). next_version v (x ∷ [])) right.2 in
    let here : e ∷ [] ≡ (one_round m v caps (map submission_of (e ∷ []))).entries = ap (λ (x : Entry). x ∷ []) (entry_is e verdict (next_version v (verdict ∷ [])) right.2 version) in
    right.1 ∙ here ∙ ap (λ (l : List Entry). (one_round m v caps (map submission_of l)).entries) (sym right.1)
