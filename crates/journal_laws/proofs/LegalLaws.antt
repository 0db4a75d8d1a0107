-- Legal journals, round by round.
use Rattle.std.proofs.Common.{◌≡◌, ◌≢◌, ◌≤◌, ◌+◌, ℕ, List, [], ◌∷◌, ◌++◌, length, map, refl, sym, ap, subst, ◌∙◌, arith}
use Rattle.std.proofs.lemmas.List.{length-append, length-map}
use Rattle.std.specs.List.{AllByRecursion}
use Rattle.net_types.specs.declared.table.Caps.{Caps}
use Rattle.net_types.specs.Capacity.{over, Fits}
use Rattle.switch_model.specs.declared.act.Submission.{Submission}
use Rattle.switch_model.specs.declared.journal.Entry.{Entry}
use Rattle.switch_model.specs.declared.journal.Round.{Round}
use Rattle.switch_model.specs.declared.journal.RoundKind.{RoundKind}
use Rattle.switch_model.specs.declared.journal.RoundKind.TheVariants.{Whole, One}
use Rattle.switch_model.specs.declared.verdict.Verdict.{Verdict}
use Rattle.switch_model.specs.Effect.{effect}
use Rattle.switch_model.specs.Journal.{Journal, Opening, IsJournalPrefix, after_verdict, after_entries, entries, entries_of, fold, len, submission_of, version_after, version_of, with_round}
use Rattle.switch_model.specs.Legal.{HaveVersion, IsLegal, IsRightAs, IsRun, AreRight}
use Rattle.switch_model.specs.PlainState.{PlainState}
use Rattle.switch_model.specs.Reason.{reason}
use Rattle.switch_model.specs.Round.{next_round, next_version}
use Rattle.switch_model.specs.Rows.{rows}
use Rattle.journal_laws.specs.Settling.{Settles, after_runs}
use Rattle.journal_laws.proofs.RoundLaws.{after_entries-append, entries_of-append, version_after-append}
use Rattle.journal_laws.proofs.SettledLaws.{accepts_none, fits-alone, settles, state_same, version_step}

-- rounds are right, and the next is right after them
pub right_push : (caps : Caps) (m : PlainState) (v : ℕ) (rs : List Round) (r : Round) → AreRight caps m v rs → IsRightAs r.kind caps (after_entries m (entries_of rs)) (version_after v (entries_of rs)) r.entries → AreRight caps m v (rs ++ r ∷ [])
right_push caps m v [] r rights right = (right, tt)
right_push caps m v (x ∷ xs) r rights right =
    let here : IsRightAs r.kind caps (after_entries (after_entries m x.entries) (entries_of xs)) (version_after v (x.entries ++ entries_of xs)) r.entries = subst (λ (n : PlainState). IsRightAs r.kind caps n (version_after v (x.entries ++ entries_of xs)) r.entries) (after_entries-append m x.entries (entries_of xs)) right in
    let there = subst (λ (w : ℕ). IsRightAs r.kind caps (after_entries (after_entries m x.entries) (entries_of xs)) w r.entries) (version_after-append v x.entries (entries_of xs)) here in
    (rights.0, right_push caps (after_entries m x.entries) (version_after v x.entries) xs r rights.1 there)

pub legal_push : (j : Journal) (r : Round) → IsLegal j → IsRightAs r.kind j.opening.caps (fold j) (version_of j) r.entries → IsLegal (with_round j r)
legal_push j r legal right = (legal.0, right_push j.opening.caps j.opening.state j.opening.version j.rounds r legal.1 right)

right_prefix : (caps : Caps) (m : PlainState) (v : ℕ) (xs ys : List Round) → AreRight caps m v (xs ++ ys) → AreRight caps m v xs
right_prefix caps m v [] ys rights = tt
right_prefix caps m v (x ∷ xs) ys rights = (rights.0, right_prefix caps (after_entries m x.entries) (version_after v x.entries) xs ys rights.1)

-- each beginning of a legal journal is legal
pub legal_prefix : (j k : Journal) → IsJournalPrefix j k → IsLegal k → IsLegal j
legal_prefix j k front legal =
    let there : AreRight k.opening.caps k.opening.state k.opening.version (j.rounds ++ front.1.0) = subst (AreRight k.opening.caps k.opening.state k.opening.version) front.1.1 legal.1 in
    let back : Journal → Type 0 = λ (x : Journal). IsLegal x in
    subst back (ap (λ o. record { opening = o; rounds = j.rounds }) (sym front.0)) (legal.0, right_prefix k.opening.caps k.opening.state k.opening.version j.rounds front.1.0 there)

-- a right round leaves rows that fit
pub round_fits : (kind : RoundKind) (caps : Caps) (m : PlainState) (v : ℕ) (es : List Entry) → Fits (rows m) caps → IsRightAs kind caps m v es → Fits (rows (after_entries m es)) caps
round_fits Whole caps m v es fits right = right.2
round_fits One caps m v es fits right =
    let e : Entry = right.0 in
    let s : Submission = submission_of e in
    let after : Fits (rows (after_verdict m e.update e.verdict)) caps = subst (λ (x : Verdict). Fits (rows (after_verdict m e.update x)) caps) (sym right.2) (fits-alone m caps s (reason m e.update) (over (rows (effect m e.update.act)) caps) fits refl) in
    subst (λ (l : List Entry). Fits (rows (after_entries m l)) caps) (sym right.1) after

rounds_fit : (caps : Caps) (m : PlainState) (v : ℕ) (rs : List Round) → Fits (rows m) caps → AreRight caps m v rs → Fits (rows (after_entries m (entries_of rs))) caps
rounds_fit caps m v [] fits rights = fits
rounds_fit caps m v (r ∷ rs) fits rights =
    let next : Fits (rows (after_entries (after_entries m r.entries) (entries_of rs))) caps = rounds_fit caps (after_entries m r.entries) (version_after v r.entries) rs (round_fits r.kind caps m v r.entries fits rights.0) rights.1 in
    subst (λ (s : PlainState). Fits (rows s) caps) (sym (after_entries-append m r.entries (entries_of rs))) next

-- the rows of a legal journal's fold fit
pub legal_fits : (j : Journal) → IsLegal j → Fits (rows (fold j)) j.opening.caps
legal_fits j legal = rounds_fit j.opening.caps j.opening.state j.opening.version j.rounds legal.0 legal.1

-- a right round has an entry

some_of : {A : Type 0} (es : List A) → es ≢ [] → 1 ≤ length es
some_of [] ne = absurd (ne refl)
some_of (e ∷ es) ne = omega arith

pub round_some : (kind : RoundKind) (caps : Caps) (m : PlainState) (v : ℕ) (es : List Entry) → IsRightAs kind caps m v es → 1 ≤ length es
round_some Whole caps m v es right = let some = some_of (map submission_of es) right.0.0 in omega (arith, length-map es submission_of, some)
round_some One caps m v es right = let one : length es ≡ 1 = ap length right.1 in omega (arith, one)

rounds_some : (caps : Caps) (m : PlainState) (v : ℕ) (rs : List Round) → AreRight caps m v rs → AllByRecursion (λ (r : Round). 1 ≤ length r.entries) rs
rounds_some caps m v [] rights = tt
rounds_some caps m v (r ∷ rs) rights = (round_some r.kind caps m v r.entries rights.0, rounds_some caps (after_entries m r.entries) (version_after v r.entries) rs rights.1)

pub legal_some : (j : Journal) → IsLegal j → AllByRecursion (λ (r : Round). 1 ≤ length r.entries) j.rounds
legal_some j legal = rounds_some j.opening.caps j.opening.state j.opening.version j.rounds legal.1

-- versions

last_of : (u w : ℕ) (es : List Entry) → AllByRecursion (λ (e : Entry). e.version ≡ w) es → (es ≡ [] → u ≡ w) → version_after u es ≡ w
last_of u w [] all same = same refl
last_of u w (e ∷ es) all same = last_of e.version w es all.1 (λ _. all.0)

pub version_have : (v : ℕ) (es : List Entry) → HaveVersion v es → version_after v es ≡ next_version v (map (λ e. e.verdict) es)
version_have v es have = last_of v (next_version v (map (λ e. e.verdict) es)) es have (λ none. ap (λ (l : List Entry). next_version v (map (λ e. e.verdict) l)) (sym none))

round_version : (kind : RoundKind) (caps : Caps) (m : PlainState) (v : ℕ) (es : List Entry) → IsRightAs kind caps m v es → HaveVersion v es
round_version Whole caps m v es right = right.3
round_version One caps m v es right = right.3

rounds_version : (caps : Caps) (m : PlainState) (v : ℕ) (rs : List Round) → AreRight caps m v rs → (v ≤ version_after v (entries_of rs)) × (version_after v (entries_of rs) ≤ v + length rs)
rounds_version caps m v [] rights = (omega arith, omega arith)
rounds_version caps m v (r ∷ rs) rights =
    let here = version_have v r.entries (round_version r.kind caps m v r.entries rights.0) in
    let step = version_step v (map (λ e. e.verdict) r.entries) in
    let rest = rounds_version caps (after_entries m r.entries) (version_after v r.entries) rs rights.1 in
    let all = version_after-append v r.entries (entries_of rs) in
    (omega (arith, here, step.0, step.1, rest.0, rest.1, all), omega (arith, here, step.0, step.1, rest.0, rest.1, all))

-- a round raises the version by one at most
pub legal_version : (j : Journal) → IsLegal j → (j.opening.version ≤ version_of j) × (version_of j ≤ j.opening.version + length j.rounds)
legal_version j legal = rounds_version j.opening.caps j.opening.state j.opening.version j.rounds legal.1

-- what comes after a beginning

right_rest : (caps : Caps) (m : PlainState) (v : ℕ) (xs ys : List Round) → AreRight caps m v (xs ++ ys) → AreRight caps (after_entries m (entries_of xs)) (version_after v (entries_of xs)) ys
right_rest caps m v [] ys rights = rights
right_rest caps m v (x ∷ xs) ys rights =
    let rest : AreRight caps (after_entries (after_entries m x.entries) (entries_of xs)) (version_after (version_after v x.entries) (entries_of xs)) ys = right_rest caps (after_entries m x.entries) (version_after v x.entries) xs ys rights.1 in
    subst (λ (w : ℕ). AreRight caps (after_entries m (x.entries ++ entries_of xs)) w ys) (sym (version_after-append v x.entries (entries_of xs)))
    (subst (λ (n : PlainState). AreRight caps n (version_after (version_after v x.entries) (entries_of xs)) ys) (sym (after_entries-append m x.entries (entries_of xs))) rest)

rounds_same : (caps : Caps) (m : PlainState) (v : ℕ) (rs : List Round) → AreRight caps m v rs → version_after v (entries_of rs) ≡ v → after_entries m (entries_of rs) ≡ m
rounds_same caps m v [] rights e = refl
rounds_same caps m v (r ∷ rs) rights e =
    let here = version_have v r.entries (round_version r.kind caps m v r.entries rights.0) in
    let step = version_step v (map (λ x. x.verdict) r.entries) in
    let w : ℕ = version_after v r.entries in
    let rest = rounds_version caps (after_entries m r.entries) w rs rights.1 in
    let all = version_after-append v r.entries (entries_of rs) in
    let same : w ≡ v = omega (arith, here, step.0, rest.0, all, e) in
    let later : version_after w (entries_of rs) ≡ w = omega (arith, all, e, same) in
    let none = accepts_none v r.entries (sym here ∙ same) in
    after_entries-append m r.entries (entries_of rs) ∙ rounds_same caps (after_entries m r.entries) w rs rights.1 later ∙ state_same m r.entries none

-- the two journals, the second as what the first is and its further rounds
further : (j k : Journal) → IsJournalPrefix j k → IsLegal k → (rs : List Round) × AreRight j.opening.caps (fold j) (version_of j) rs × (fold k ≡ after_entries (fold j) (entries_of rs)) × (version_of k ≡ version_after (version_of j) (entries_of rs))
further j k front legal =
    let rs : List Round = front.1.0 in
    let there : AreRight k.opening.caps k.opening.state k.opening.version (j.rounds ++ rs) = subst (AreRight k.opening.caps k.opening.state k.opening.version) front.1.1 legal.1 in
    let here : AreRight j.opening.caps j.opening.state j.opening.version (j.rounds ++ rs) = subst (λ (o : Opening). AreRight o.caps o.state o.version (j.rounds ++ rs)) (sym front.0) there in
    let all : entries k ≡ entries j ++ entries_of rs = ap entries_of front.1.1 ∙ entries_of-append j.rounds rs in (
      rs,
      right_rest j.opening.caps j.opening.state j.opening.version j.rounds rs here,
      ap (λ (o : Opening). after_entries o.state (entries k)) (sym front.0) ∙ ap (after_entries j.opening.state) all ∙ after_entries-append j.opening.state (entries j) (entries_of rs),
      ap (λ (o : Opening). version_after o.version (entries k)) (sym front.0) ∙ ap (version_after j.opening.version) all ∙ version_after-append j.opening.version (entries j) (entries_of rs),
    )

-- versions never fall
pub version_rises : (j k : Journal) → IsJournalPrefix j k → IsLegal k → version_of j ≤ version_of k
version_rises j k front legal =
    let more = further j k front legal in
    let both = rounds_version j.opening.caps (fold j) (version_of j) more.0 more.1 in
    omega (arith, both.0, more.3)

-- and a version names one state
pub version_names : (j k : Journal) → IsJournalPrefix j k → IsLegal k → version_of k ≡ version_of j → fold k ≡ fold j
version_names j k front legal e =
    let more = further j k front legal in
    more.2 ∙ rounds_same j.opening.caps (fold j) (version_of j) more.0 more.1 (sym more.3 ∙ e)

count_some : (rs : List Round) → AllByRecursion (λ (r : Round). 1 ≤ length r.entries) rs → length rs ≤ length (entries_of rs)
count_some [] some = omega arith
count_some (r ∷ rs) some = let rest = count_some rs some.1 in omega (arith, rest, some.0, length-append r.entries (entries_of rs))

-- there are no more rounds than entries
pub legal_rounds : (j : Journal) → IsLegal j → length j.rounds ≤ len j
legal_rounds j legal = count_some j.rounds (legal_some j legal)

-- a run may be settled after any legal journal
pub next_settles_run : (j : Journal) (q : List Submission) → IsLegal j → IsRun q → Settles (fold j) (version_of j) j.opening.caps q (next_round j q)
next_settles_run j q legal is = settles (fold j) (version_of j) j.opening.caps q (legal_fits j legal) is

pub legal_settled : (j : Journal) (q : List Submission) → IsLegal j → IsRun q → IsLegal (with_round j (next_round j q))
legal_settled j q legal is = legal_push j (next_round j q) legal (next_settles_run j q legal is).right

pub legal_runs : (j : Journal) (qs : List (List Submission)) → IsLegal j → AllByRecursion IsRun qs → IsLegal (after_runs j qs)
legal_runs j [] legal are = legal
legal_runs j (q ∷ qs) legal are = legal_runs (with_round j (next_round j q)) qs (legal_settled j q legal are.0) are.1
