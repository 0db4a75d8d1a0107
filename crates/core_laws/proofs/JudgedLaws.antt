-- Updates with their verdicts, as a round.
use Rattle.std.proofs.Common.{◌≡◌, ◌+◌, ℕ, Bool, true, false, cond, List, [], ◌∷◌, map, refl, sym, ap, subst, ◌∙◌}
use Rattle.journal_laws.specs.Settling.{after_run}
use Rattle.journal_laws.proofs.SettledLaws.{right-with_verdicts, submissions-with_verdicts, verdicts_of, version-round, version_after-round}
use Rattle.net_types.specs.Capacity.{Fits}
use Rattle.net_types.specs.declared.table.Caps.{Caps}
use Rattle.switch_model.specs.declared.act.Submission.{Submission}
use Rattle.switch_model.specs.declared.act.Update.{Update}
use Rattle.switch_model.specs.declared.journal.RoundKind.{RoundKind}
use Rattle.switch_model.specs.declared.journal.RoundKind.TheVariants.{Whole, One}
use Rattle.switch_model.specs.declared.verdict.Verdict.{Verdict}
use Rattle.switch_model.specs.declared.verdict.Verdict.TheVariants.{Accepted, Invalid, Full}
use Rattle.switch_model.specs.Journal.{after_entries, after_verdict, version_after}
use Rattle.switch_model.specs.Legal.{IsRightAs, IsRun}
use Rattle.switch_model.specs.PlainState.{PlainState}
use Rattle.switch_model.specs.Reason.{reason}
use Rattle.switch_model.specs.Round.{entry_of, is_accepted, next_version, round_of, verdict_in_run, whole_round, with_verdict_alone, with_verdicts}
use Rattle.switch_model.specs.Rows.{rows}
use Rattle.core_laws.specs.Judged.{accepts, after_judged}

pub after-judged : (m : PlainState) (w : ℕ) (xs : List (Submission × Verdict)) → after_entries m (map (entry_of w) xs) ≡ after_judged m xs
after-judged m w [] = refl
after-judged m w (x ∷ xs) = after-judged (after_verdict m x.0.update x.1) w xs

pub run-judged : (m : PlainState) (q : List Submission) → after_judged m (with_verdicts m q) ≡ after_run m q
run-judged m [] = refl
run-judged m (s ∷ ss) = run-judged (after_verdict m s.update (verdict_in_run (reason m s.update))) ss

same_verdict : (m : PlainState) (update : Update) (verdict : Verdict) → is_accepted verdict ≡ false → after_verdict m update verdict ≡ m
same_verdict m update Accepted e = let never : (true ≡ false) → ⊥ = λ h. cc in absurd (never e)
same_verdict m update (Invalid r) e = refl
same_verdict m update (Full t) e = refl

unaccepted_by : (m : PlainState) (x : Submission × Verdict) (xs : List (Submission × Verdict)) (b : Bool) → is_accepted x.1 ≡ b → cond b true (accepts xs) ≡ false → (after_verdict m x.0.update x.1 ≡ m) × (accepts xs ≡ false)
unaccepted_by m x xs true is none = let never : (true ≡ false) → ⊥ = λ h. cc in absurd (never none)
unaccepted_by m x xs false is none = (same_verdict m x.0.update x.1 is, none)

-- what accepts nothing changes nothing
pub unaccepted : (m : PlainState) (xs : List (Submission × Verdict)) → accepts xs ≡ false → after_judged m xs ≡ m
unaccepted m [] none = refl
unaccepted m (x ∷ xs) none = let here = unaccepted_by m x xs (is_accepted x.1) refl none in ap (λ (n : PlainState). after_judged n xs) here.0 ∙ unaccepted m xs here.1

next_by : (v : ℕ) (xs : List (Submission × Verdict)) (b : Bool) → next_version v (map (λ (x : Submission × Verdict). x.1) xs) ≡ cond (accepts xs) (v + 1) v → cond b (v + 1) (next_version v (map (λ (x : Submission × Verdict). x.1) xs)) ≡ cond (cond b true (accepts xs)) (v + 1) v
next_by v xs true rest = refl
next_by v xs false rest = rest

-- the version rises where something is accepted
pub next-accepts : (v : ℕ) (xs : List (Submission × Verdict)) → next_version v (map (λ (x : Submission × Verdict). x.1) xs) ≡ cond (accepts xs) (v + 1) v
next-accepts v [] = refl
next-accepts v (x ∷ xs) = next_by v xs (is_accepted x.1) (next-accepts v xs)

pub version_round_of : (kind : RoundKind) (v : ℕ) (xs : List (Submission × Verdict)) → version_after v (round_of kind v xs).entries ≡ next_version v (map (λ (x : Submission × Verdict). x.1) xs)
version_round_of kind v xs = version_after-round kind v xs ∙ ap (next_version v) (verdicts_of (next_version v (map (λ x. x.1) xs)) xs)

rose_by : (b : Bool) (v : ℕ) → b ≡ true → cond b (v + 1) v ≡ v + 1
rose_by b v is = ap (λ (x : Bool). cond x (v + 1) v) is

stayed_by : (b : Bool) (v : ℕ) → b ≡ false → cond b (v + 1) v ≡ v
stayed_by b v is = ap (λ (x : Bool). cond x (v + 1) v) is

pub version_rises : (v : ℕ) (xs : List (Submission × Verdict)) → accepts xs ≡ true → v + 1 ≡ next_version v (map (λ (x : Submission × Verdict). x.1) xs)
version_rises v xs some = sym (next-accepts v xs ∙ rose_by (accepts xs) v some)

pub version_stays : (v : ℕ) (xs : List (Submission × Verdict)) → accepts xs ≡ false → v ≡ next_version v (map (λ (x : Submission × Verdict). x.1) xs)
version_stays v xs none = sym (next-accepts v xs ∙ stayed_by (accepts xs) v none)

-- rounds are right

pub whole_right : (m : PlainState) (v : ℕ) (caps : Caps) (q : List Submission) → IsRun q → Fits (rows (after_entries m (whole_round m v q).entries)) caps → IsRightAs Whole caps m v (whole_round m v q).entries
whole_right m v caps q is fits =
    let w = next_version v (map (λ x. x.1) (with_verdicts m q)) in
    (subst IsRun (sym (submissions-with_verdicts m w q)) is, right-with_verdicts m w q, fits, version-round Whole v (with_verdicts m q))

pub one_right : (m : PlainState) (v : ℕ) (caps : Caps) (s : Submission) → IsRightAs One caps m v (round_of One v (with_verdict_alone m caps s ∷ [])).entries
one_right m v caps s = (_, refl, refl, version-round One v (with_verdict_alone m caps s ∷ []))
