-- What is summed up.
use Rattle.std.proofs.Common.{◌≡◌, ◌≤◌, ◌+◌, ℕ, zero, suc, List, [], ◌∷◌, ◌++◌, Result, length, take, drop, refl, ap, subst, ◌∙◌, arith}
use Rattle.std.specs.Prelude.{IfOk}
use Rattle.chip_core.specs.Chip.{view_of}
use Rattle.core_laws.specs.Published.{CoreView, IsCore, IsPublished, PublishedView, journal_of}
use Rattle.journal_report.specs.declared.journal.Written.{Written}
use Rattle.journal_report.specs.Written.{IsWritten}
use Rattle.journal_report.proofs.JournalLaws.{rounds-more}
use Rattle.report_text.specs.EntryText.{rounds_text}
use Rattle.switch_model.specs.declared.journal.Round.{Round}
use Rattle.switch_model.specs.Journal.{Journal, entries, fold, version_of}
use Rattle.switch_model.specs.Rows.{rows}
use Rattle.work_laws.specs.Summary.{journal_text, outcome_of, row_counts, verdict_counts}
use Rattle.work_summary.specs.declared.digest.LineDigest.{LineDigest}
use Rattle.work_summary.specs.declared.summary.Outcome.{Outcome}
use Rattle.work_summary.specs.declared.summary.RowCounts.{RowCounts}
use Rattle.work_summary.specs.declared.summary.VerdictCounts.{VerdictCounts}
use Rattle.work_summary.specs.Digest.{HasTaken}
use Rattle.work_summary.specs.Summary.{summary_text}

module _ (rounds : List Round) (version : ℕ) where
  -- the lines of one more round are taken
  pub digest_more : (w : Written) (next : ℕ) (old new : LineDigest) (blank line : List ℕ) → IsWritten version rounds w → next ≡ w.rounds + 1 → HasTaken old (rounds_text 0 0 version (take w.rounds rounds)) →
      blank ≡ [] → line ≡ blank ++ rounds_text w.rounds w.entries w.version (take 1 (drop w.rounds rounds)) → ((taken : List ℕ) → HasTaken old taken → HasTaken new (taken ++ line)) → HasTaken new (rounds_text 0 0 version (take next rounds))
  digest_more w next old new blank line written is so_far none line_is more =
      let front : List ℕ = rounds_text 0 0 version (take w.rounds rounds) in
      let one : List ℕ = rounds_text w.rounds w.entries w.version (take 1 (drop w.rounds rounds)) in
      let line_one : line ≡ one = line_is ∙ ap (λ (l : List ℕ). l ++ one) none in
      let whole : front ++ one ≡ rounds_text 0 0 version (take next rounds) = rounds-more rounds version w next [] front (front ++ one) written is refl refl in
      subst (HasTaken new) (ap (λ (l : List ℕ). front ++ l) line_one ∙ whole) (more front so_far)

  take_past : {X : Type 0} (xs : List X) (n : ℕ) → length xs ≤ n → take n xs ≡ xs
  take_past [] zero le = refl
  take_past [] (suc n) le = refl
  take_past (x ∷ xs) zero le = absurd (omega (arith, le))
  take_past {X} (x ∷ xs) (suc n) le = ap (λ (l : List X). x ∷ l) (take_past xs n (omega (arith, le)))

  -- the lines of all rounds are taken
  pub digest_all : (n : ℕ) (digest : LineDigest) → length rounds ≤ n → HasTaken digest (rounds_text 0 0 version (take n rounds)) → HasTaken digest (rounds_text 0 0 version rounds)
  digest_all n digest past so_far = subst (λ (l : List Round). HasTaken digest (rounds_text 0 0 version l)) (take_past rounds n past) so_far

-- the outcome is that of the core's journal
pub outcome_is : (c : CoreView) (p : PublishedView) (seed count : ℕ) (verdicts : VerdictCounts) (rounds version : ℕ) (counts : RowCounts) → IsCore c → IsPublished p → p ≡ c.published →
    verdicts ≡ verdict_counts (entries (journal_of p)) → rounds ≡ length p.rounds → version ≡ p.state.version → counts ≡ row_counts (view_of c.raw) →
    record { seed = seed; count = count; verdicts = verdicts; rounds = rounds; version = version; rows = counts } ≡ outcome_of seed count (journal_of c.published)
outcome_is c p seed count verdicts count_of_rounds version counts core is same verdicts_are rounds_are version_is counts_are =
    let j : Journal = journal_of c.published in
    let published : IsPublished c.published = subst IsPublished same is in
    let shown : view_of c.raw ≡ rows (fold j) = core.view ∙ ap rows published.plain in
    let v : verdicts ≡ verdict_counts (entries j) = verdicts_are ∙ ap (λ (q : PublishedView). verdict_counts (entries (journal_of q))) same in
    let r : count_of_rounds ≡ length j.rounds = rounds_are ∙ ap (λ (q : PublishedView). length q.rounds) same in
    let n : version ≡ version_of j = version_is ∙ ap (λ (q : PublishedView). q.state.version) same ∙ published.version in
    let k : counts ≡ row_counts (rows (fold j)) = counts_are ∙ ap row_counts shown in
    λ i. record { seed = seed; count = count; verdicts = v i; rounds = r i; version = n i; rows = k i }

-- so is the summary
pub summed : {X E : Type 0} (text_of : X → List ℕ) (o : Outcome) (digest : LineDigest) (p q : PublishedView) (seed count : ℕ) (r : Result X E) → o ≡ outcome_of seed count (journal_of q) → p ≡ q → HasTaken digest (journal_text (journal_of p)) →
    ((taken : List ℕ) → HasTaken digest taken → IfOk r (λ x. text_of x ≡ summary_text o taken)) → IfOk r (λ x. text_of x ≡ summary_text (outcome_of seed count (journal_of q)) (journal_text (journal_of q)))
summed {X} text_of o digest p q seed count r is same taken says =
    subst (λ (n : Outcome). IfOk r (λ (x : X). text_of x ≡ summary_text n (journal_text (journal_of q)))) is
    (says (journal_text (journal_of q)) (subst (λ (k : PublishedView). HasTaken digest (journal_text (journal_of k))) same taken))
