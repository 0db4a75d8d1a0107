-- The round that settles a run.
use Rattle.std.proofs.Common.{◌≡◌, ◌≢◌, ◌≤◌, ◌+◌, ◌⊎◌, ◌↔◌, ℕ, suc, Bool, true, false, cond, is_none, Option, Some, None, List, [], ◌∷◌, length, map, inl, inr, refl, sym, ap, subst, ◌∙◌, lit≤, arith}
use Rattle.std.specs.List.{AllByRecursion}
use Rattle.keyed.specs.Cases.{some_is, none_some, some_none}
use Rattle.net_types.specs.declared.table.Caps.{Caps}
use Rattle.net_types.specs.declared.table.Table.{Table}
use Rattle.net_types.specs.Capacity.{over, Fits}
use Rattle.switch_model.specs.declared.act.Submission.{Submission}
use Rattle.switch_model.specs.declared.act.Update.{Update}
use Rattle.switch_model.specs.declared.journal.Entry.{Entry}
use Rattle.switch_model.specs.declared.journal.Round.{Round}
use Rattle.switch_model.specs.declared.journal.RoundKind.{RoundKind}
use Rattle.switch_model.specs.declared.journal.RoundKind.TheVariants.{Whole, One}
use Rattle.switch_model.specs.declared.verdict.Reason.{Reason}
use Rattle.switch_model.specs.declared.verdict.Verdict.{Verdict}
use Rattle.switch_model.specs.declared.verdict.Verdict.TheVariants.{Accepted, Invalid, Full}
use Rattle.switch_model.specs.Effect.{effect}
use Rattle.switch_model.specs.Journal.{after_verdict, after_entries, version_after, submission_of}
use Rattle.switch_model.specs.Legal.{IsRun, AreRightInRun, HaveVersion, IsRightAs}
use Rattle.switch_model.specs.PlainState.{PlainState}
use Rattle.switch_model.specs.Reason.{reason}
use Rattle.switch_model.specs.Round.{verdict_in_run, verdict_alone, with_verdicts, with_verdict_alone, is_accepted, next_version, entry_of, round_of, whole_round, one_round, settled}
use Rattle.switch_model.specs.Rows.{rows}
use Rattle.journal_laws.specs.Settling.{AcceptsNone, Settles, after_run, kind_alone}

-- judged entries

pub submissions-with_verdicts : (m : PlainState) (w : ℕ) (q : List Submission) → map submission_of (map (entry_of w) (with_verdicts m q)) ≡ q
submissions-with_verdicts m w [] = refl
submissions-with_verdicts m w (s ∷ ss) = ap (λ (l : List Submission). s ∷ l) (submissions-with_verdicts (after_verdict m s.update (verdict_in_run (reason m s.update))) w ss)

pub right-with_verdicts : (m : PlainState) (w : ℕ) (q : List Submission) → AreRightInRun m (map (entry_of w) (with_verdicts m q))
right-with_verdicts m w [] = tt
right-with_verdicts m w (s ∷ ss) = (refl, right-with_verdicts (after_verdict m s.update (verdict_in_run (reason m s.update))) w ss)

pub verdicts_of : (w : ℕ) (xs : List (Submission × Verdict)) → map (λ (e : Entry). e.verdict) (map (entry_of w) xs) ≡ map (λ x. x.1) xs
verdicts_of w [] = refl
verdicts_of w (x ∷ xs) = ap (λ (l : List Verdict). x.1 ∷ l) (verdicts_of w xs)

all_version : (w u : ℕ) (xs : List (Submission × Verdict)) → w ≡ u → AllByRecursion (λ (e : Entry). e.version ≡ u) (map (entry_of w) xs)
all_version w u [] e = tt
all_version w u (x ∷ xs) e = (e, all_version w u xs e)

-- each entry of a round has the version after it
pub version-round : (kind : RoundKind) (v : ℕ) (xs : List (Submission × Verdict)) → HaveVersion v (round_of kind v xs).entries
version-round kind v xs = let w = next_version v (map (λ x. x.1) xs) in all_version w _ xs (ap (next_version v) (sym (verdicts_of w xs)))

last_version : (w : ℕ) (xs : List (Submission × Verdict)) → version_after w (map (entry_of w) xs) ≡ w
last_version w [] = refl
last_version w (x ∷ xs) = last_version w xs

version_by : (v w : ℕ) (xs : List (Submission × Verdict)) → (xs ≡ [] → v ≡ w) → version_after v (map (entry_of w) xs) ≡ w
version_by v w [] same = same refl
version_by v w (x ∷ xs) same = last_version w xs

-- and so has what comes after the round
pub version_after-round : (kind : RoundKind) (v : ℕ) (xs : List (Submission × Verdict)) → version_after v (round_of kind v xs).entries ≡ next_version v (map (λ (e : Entry). e.verdict) (round_of kind v xs).entries)
version_after-round kind v xs =
    let w = next_version v (map (λ x. x.1) xs) in
    version_by v w xs (λ e. ap (λ (l : List (Submission × Verdict)). next_version v (map (λ x. x.1) l)) (sym e))
    ∙ ap (next_version v) (sym (verdicts_of w xs))

-- which of the two it is

by_fit : (o : Option Table) (a b : Round) → ((o ≡ None) × (cond (is_none o) a b ≡ a)) ⊎ ((o ≢ None) × (cond (is_none o) a b ≡ b))
by_fit None a b = inl (refl, refl)
by_fit (Some t) a b = inr ((λ e. let none : (Some t ≡ None) → ⊥ = λ h. cc in none e), refl)

pub settled_as : (m : PlainState) (v : ℕ) (caps : Caps) (q : List Submission) →
    (Fits (rows (after_entries m (whole_round m v q).entries)) caps × (settled m v caps q ≡ whole_round m v q))
    ⊎ ((over (rows (after_entries m (whole_round m v q).entries)) caps ≢ None) × (settled m v caps q ≡ one_round m v caps q))
settled_as m v caps q = by_fit (over (rows (after_entries m (whole_round m v q).entries)) caps) (whole_round m v q) (one_round m v caps q)

-- right, and fitting

whole_right : (m : PlainState) (v : ℕ) (caps : Caps) (q : List Submission) → IsRun q → Fits (rows (after_entries m (whole_round m v q).entries)) caps → IsRightAs Whole caps m v (whole_round m v q).entries
whole_right m v caps q is fits =
    let w = next_version v (map (λ x. x.1) (with_verdicts m q)) in
    (subst IsRun (sym (submissions-with_verdicts m w q)) is, right-with_verdicts m w q, fits, version-round Whole v (with_verdicts m q))

one_right : (m : PlainState) (v : ℕ) (caps : Caps) (s : Submission) → IsRightAs One caps m v (round_of One v (with_verdict_alone m caps s ∷ [])).entries
one_right m v caps s = (_, refl, refl, version-round One v (with_verdict_alone m caps s ∷ []))

pub fits-alone : (m : PlainState) (caps : Caps) (s : Submission) (r : Option Reason) (t : Option Table) → Fits (rows m) caps → over (rows (effect m s.update.act)) caps ≡ t → Fits (rows (after_verdict m s.update (verdict_alone r t))) caps
fits-alone m caps s (Some r) t fits e = fits
fits-alone m caps s None None fits e = e
fits-alone m caps s None (Some t) fits e = fits

one_fits : (m : PlainState) (v : ℕ) (caps : Caps) (s : Submission) → Fits (rows m) caps → Fits (rows (after_entries m (round_of One v (with_verdict_alone m caps s ∷ [])).entries)) caps
one_fits m v caps s fits = fits-alone m caps s (reason m s.update) (over (rows (effect m s.update.act)) caps) fits refl

some_in_run : (m : PlainState) (w : ℕ) (q : List Submission) → length (map (entry_of w) (with_verdicts m q)) ≡ length q
some_in_run m w [] = refl
some_in_run m w (s ∷ ss) = ap suc (some_in_run (after_verdict m s.update (verdict_in_run (reason m s.update))) w ss)

whole_settles : (m : PlainState) (v : ℕ) (caps : Caps) (q : List Submission) → IsRun q → 1 ≤ length q → Fits (rows (after_entries m (whole_round m v q).entries)) caps → Settles m v caps q (whole_round m v q)
whole_settles m v caps q is some fits =
    let w = next_version v (map (λ x. x.1) (with_verdicts m q)) in
    record {
      right = whole_right m v caps q is fits;
      fits = fits;
      has = inl (refl, submissions-with_verdicts m w q);
      some = omega (arith, some_in_run m w q, some);
      at_most = omega (arith, some_in_run m w q);
      version = version_after-round Whole v (with_verdicts m q);
    }

one_settles : (m : PlainState) (v : ℕ) (caps : Caps) (s : Submission) (ss : List Submission) → Fits (rows m) caps → Settles m v caps (s ∷ ss) (one_round m v caps (s ∷ ss))
one_settles m v caps s ss fits = record {
  right = one_right m v caps s;
  fits = one_fits m v caps s fits;
  has = inr (refl, refl);
  some = lit≤ tt;
  at_most = omega arith;
  version = version_after-round One v (with_verdict_alone m caps s ∷ []);
}

-- a run after a state whose rows fit
pub settles : (m : PlainState) (v : ℕ) (caps : Caps) (q : List Submission) → Fits (rows m) caps → IsRun q → Settles m v caps q (settled m v caps q)
settles m v caps [] fits is = absurd (is.0 refl)
settles m v caps (s ∷ ss) fits is = elim (settled_as m v caps (s ∷ ss)) [
  | inl whole ↦ subst (Settles m v caps (s ∷ ss)) (sym whole.1) (whole_settles m v caps (s ∷ ss) is (omega arith) whole.0)
  | inr one ↦ subst (Settles m v caps (s ∷ ss)) (sym one.1) (one_settles m v caps s ss fits)
]

-- where nothing is accepted nothing changes

same_verdict : (m : PlainState) (update : Update) (verdict : Verdict) → is_accepted verdict ≡ false → after_verdict m update verdict ≡ m
same_verdict m update Accepted e = let never : (true ≡ false) → ⊥ = λ h. cc in absurd (never e)
same_verdict m update (Invalid r) e = refl
same_verdict m update (Full t) e = refl

pub state_same : (m : PlainState) (es : List Entry) → AcceptsNone es → after_entries m es ≡ m
state_same m [] none = refl
state_same m (e ∷ es) none = ap (λ (n : PlainState). after_entries n es) (same_verdict m e.update e.verdict none.0) ∙ state_same m es none.1

version_same_by : (v w : ℕ) (b : Bool) → b ≡ false → cond b (v + 1) w ≡ w
version_same_by v w true e = let never : (true ≡ false) → ⊥ = λ h. cc in absurd (never e)
version_same_by v w false e = refl

pub version_same : (v : ℕ) (es : List Entry) → AcceptsNone es → next_version v (map (λ e. e.verdict) es) ≡ v
version_same v [] none = refl
version_same v (e ∷ es) none = version_same_by v (next_version v (map (λ x. x.verdict) es)) (is_accepted e.verdict) none.0 ∙ version_same v es none.1

step_by : (v w : ℕ) (b : Bool) → v ≤ w → w ≤ v + 1 → (v ≤ cond b (v + 1) w) × (cond b (v + 1) w ≤ v + 1)
step_by v w true low high = (omega arith, omega arith)
step_by v w false low high = (low, high)

-- a round raises the version by one at most
pub version_step : (v : ℕ) (verdicts : List Verdict) → (v ≤ next_version v verdicts) × (next_version v verdicts ≤ v + 1)
version_step v [] = (omega arith, omega arith)
version_step v (x ∷ xs) = let rest = version_step v xs in step_by v (next_version v xs) (is_accepted x) rest.0 rest.1

none_by : (v w : ℕ) (b : Bool) → v ≤ w → cond b (v + 1) w ≡ v → (b ≡ false) × (w ≡ v)
none_by v w true low e = absurd (omega (arith, e))
none_by v w false low e = (refl, e)

-- and only such a round leaves the version
pub accepts_none : (v : ℕ) (es : List Entry) → next_version v (map (λ e. e.verdict) es) ≡ v → AcceptsNone es
accepts_none v [] e = tt
accepts_none v (x ∷ es) e =
    let rest : List Verdict = map (λ (y : Entry). y.verdict) es in
    let both = none_by v (next_version v rest) (is_accepted x.verdict) (version_step v rest).0 e in
    (both.0, accepts_none v es both.1)

-- the state after the whole run
pub after-with_verdicts : (m : PlainState) (w : ℕ) (q : List Submission) → after_entries m (map (entry_of w) (with_verdicts m q)) ≡ after_run m q
after-with_verdicts m w [] = refl
after-with_verdicts m w (s ∷ ss) = after-with_verdicts (after_verdict m s.update (verdict_in_run (reason m s.update))) w ss

pub whole_state : (m : PlainState) (v : ℕ) (q : List Submission) → after_entries m (whole_round m v q).entries ≡ after_run m q
whole_state m v q = after-with_verdicts m (next_version v (map (λ x. x.1) (with_verdicts m q))) q

-- so a run is settled whole exactly where its valid updates, in turn, give rows that fit
pub whole_where : (m : PlainState) (v : ℕ) (caps : Caps) (q : List Submission) → Fits (rows (after_run m q)) caps → settled m v caps q ≡ whole_round m v q
whole_where m v caps q fits = elim (settled_as m v caps q) [
  | inl whole ↦ whole.1
  | inr one ↦ absurd (one.0 (ap (λ (n : PlainState). over (rows n) caps) (whole_state m v q) ∙ fits))
]

pub one_where : (m : PlainState) (v : ℕ) (caps : Caps) (q : List Submission) → over (rows (after_run m q)) caps ≢ None → settled m v caps q ≡ one_round m v caps q
one_where m v caps q over_it = elim (settled_as m v caps q) [
  | inl whole ↦ absurd (over_it (ap (λ (n : PlainState). over (rows n) caps) (sym (whole_state m v q)) ∙ whole.0))
  | inr one ↦ one.1
]

-- an update by itself

alone_by : (m : PlainState) (v : ℕ) (caps : Caps) (s : Submission) (r : Option Reason) (t : Option Table) → Fits (rows m) caps → over (rows (effect m s.update.act)) caps ≡ t →
    cond (is_none (over (rows (after_verdict m s.update (verdict_in_run r))) caps)) (round_of Whole v ((s, verdict_in_run r) ∷ [])) (round_of One v ((s, verdict_alone r t) ∷ [])) ≡ round_of (kind_alone (verdict_alone r t)) v ((s, verdict_alone r t) ∷ [])
alone_by m v caps s (Some r) t fits e = ap (λ (o : Option Table). cond (is_none o) (round_of Whole v ((s, verdict_in_run (Some r)) ∷ [])) (round_of One v ((s, verdict_alone (Some r) t) ∷ []))) fits
alone_by m v caps s None None fits e = ap (λ (o : Option Table). cond (is_none o) (round_of Whole v ((s, verdict_in_run None) ∷ [])) (round_of One v ((s, verdict_alone None None) ∷ []))) e
alone_by m v caps s None (Some t) fits e = ap (λ (o : Option Table). cond (is_none o) (round_of Whole v ((s, verdict_in_run None) ∷ [])) (round_of One v ((s, verdict_alone None (Some t)) ∷ []))) e

-- after a state whose rows fit, the round of one submission goes by its verdict alone
pub settled_alone : (m : PlainState) (v : ℕ) (caps : Caps) (s : Submission) → Fits (rows m) caps →
    settled m v caps (s ∷ []) ≡ round_of (kind_alone (with_verdict_alone m caps s).1) v (with_verdict_alone m caps s ∷ [])
settled_alone m v caps s fits = alone_by m v caps s (reason m s.update) (over (rows (effect m s.update.act)) caps) fits refl

invalid_is : {r s : Reason} → Invalid r ≡ Invalid s → r ≡ s
invalid_is h = cc

full_is : {r s : Table} → Full r ≡ Full s → r ≡ s
full_is h = cc

full_invalid : {t : Table} {r : Reason} → Full t ≡ Invalid r → ⊥
full_invalid h = cc

accepted_invalid : {r : Reason} → Accepted ≡ Invalid r → ⊥
accepted_invalid h = cc

accepted_full : {t : Table} → Accepted ≡ Full t → ⊥
accepted_full h = cc

-- invalid exactly where that reason holds
pub verdict_alone-invalid : (o : Option Reason) (t : Option Table) (r : Reason) → (verdict_alone o t ≡ Invalid r) ↔ (o ≡ Some r)
verdict_alone-invalid (Some s) t r = ((λ e. ap Some (invalid_is e)), (λ e. ap Invalid (some_is e)))
verdict_alone-invalid None (Some t) r = ((λ e. absurd (full_invalid e)), (λ e. absurd (none_some e)))
verdict_alone-invalid None None r = ((λ e. absurd (accepted_invalid e)), (λ e. absurd (none_some e)))

-- full exactly where no reason holds, and that table is the first over its capacity
pub verdict_alone-full : (o : Option Reason) (t : Option Table) (table : Table) → (verdict_alone o t ≡ Full table) ↔ ((o ≡ None) × (t ≡ Some table))
verdict_alone-full (Some s) t table = ((λ e. absurd (full_invalid (sym e))), (λ e. absurd (some_none e.0)))
verdict_alone-full None (Some t) table = ((λ e. (refl, ap Some (full_is e))), (λ e. ap Full (some_is e.1)))
verdict_alone-full None None table = ((λ e. absurd (accepted_full e)), (λ e. absurd (none_some e.1)))

-- accepted exactly where neither is so
pub verdict_alone-accepted : (o : Option Reason) (t : Option Table) → (verdict_alone o t ≡ Accepted) ↔ ((o ≡ None) × (t ≡ None))
verdict_alone-accepted (Some s) t = ((λ e. absurd (accepted_invalid (sym e))), (λ e. absurd (some_none e.0)))
verdict_alone-accepted None (Some t) = ((λ e. absurd (accepted_full (sym e))), (λ e. absurd (some_none e.1)))
verdict_alone-accepted None None = ((λ e. (refl, refl)), (λ e. refl))
