-- What one more round does to a core: the first of a run by itself.
use Rattle.std.proofs.Common.{◌≡◌, ◌≤◌, ◌+◌, ◌*◌, ℕ, Option, Some, None, List, [], ◌∷◌, length, refl, sym, ap, subst, ◌∙◌, arith}
use Rattle.chip_core.specs.Changes.{changed_rows}
use Rattle.chip_core.specs.Chip.{view_of}
use Rattle.chip_core.specs.declared.changes.RowChanges.{RowChanges}
use Rattle.hw_undo.specs.Counts.{differing}
use Rattle.journal_laws.specs.Settling.{after_run}
use Rattle.net_types.specs.Capacity.{over}
use Rattle.net_types.specs.Differ.{differ}
use Rattle.net_types.specs.Rows.{Rows}
use Rattle.net_types.specs.declared.table.Caps.{Caps}
use Rattle.net_types.specs.declared.table.Table.{Table}
use Rattle.net_types.specs.declared.table.Tables.{Tables}
use Rattle.switch_model.specs.declared.act.Submission.{Submission}
use Rattle.switch_model.specs.declared.journal.Round.{Round}
use Rattle.switch_model.specs.declared.journal.RoundKind.TheVariants.{One}
use Rattle.switch_model.specs.declared.verdict.Reason.{Reason}
use Rattle.switch_model.specs.declared.verdict.Verdict.{Verdict}
use Rattle.switch_model.specs.declared.verdict.Verdict.TheVariants.{Full}
use Rattle.switch_model.specs.Effect.{effect}
use Rattle.switch_model.specs.Journal.{after_verdict, version_after}
use Rattle.switch_model.specs.Legal.{IsRightAs}
use Rattle.switch_model.specs.PlainState.{PlainState}
use Rattle.switch_model.specs.Reason.{reason}
use Rattle.switch_model.specs.Round.{one_round, round_of, verdict_alone, verdict_in_run, with_verdict_alone}
use Rattle.switch_model.specs.Rows.{rows}
use Rattle.switch_state.specs.Plain.{plain}
use Rattle.switch_state.specs.StateView.{StateView}
use Rattle.core_laws.specs.Audience.{AudienceView, IsHeard, WereTold}
use Rattle.core_laws.specs.Published.{CoreView, IsCore, IsPublished, PublishedView, journal_of}
use Rattle.core_laws.specs.Rounds.{HasRound, HaveHeard, IsChange, IsOne, refused_first, tried_round}
use Rattle.core_laws.specs.Writes.{differing_after}
use Rattle.core_laws.proofs.ChangeLaws.{new_there}
use Rattle.core_laws.proofs.CoreLaws.{core_after, legal_after, new_heard, nothing_heard, stayed_heard, told_heard}
use Rattle.core_laws.proofs.JudgedLaws.{one_right}
use Rattle.core_laws.proofs.PublishedLaws.{run_plain}

verdict_kept : (v : ℕ) (s : Submission) (o : Option Reason) (t : Option Table) → version_after v (round_of One v ((s, verdict_in_run o) ∷ [])).entries ≡ v → verdict_in_run o ≡ verdict_alone o t
verdict_kept v s (Some r) t same = refl
verdict_kept v s None t same = let rose : v + 1 ≡ v = same in absurd (omega (arith, rose))

verdict_done : (m : PlainState) (caps : Caps) (s : Submission) (o : Option Reason) → over (rows (after_verdict m s.update (verdict_in_run o))) caps ≡ None → verdict_in_run o ≡ verdict_alone o (over (rows (effect m s.update.act)) caps)
verdict_done m caps s (Some r) fits = refl
verdict_done m caps s None fits = sym (ap (verdict_alone None) fits)

verdict_full : (m : PlainState) (v : ℕ) (caps : Caps) (s : Submission) (o : Option Reason) (t : Table) → version_after v (round_of One v ((s, verdict_in_run o) ∷ [])).entries ≡ v + 1 → over (rows (after_verdict m s.update (verdict_in_run o))) caps ≡ Some t → Full t ≡ verdict_alone o (over (rows (effect m s.update.act)) caps)
verdict_full m v caps s (Some r) t rose full = let same : v ≡ v + 1 = rose in absurd (omega (arith, same))
verdict_full m v caps s None t rose full = sym (ap (verdict_alone None) full)

round_by : (s : Submission) (a b : Verdict) (old p : PublishedView) → a ≡ b → HasRound (round_of One old.state.version ((s, a) ∷ [])) old p → HasRound (round_of One old.state.version ((s, b) ∷ [])) old p
round_by s a b old p is has = subst (λ (x : Verdict). HasRound (round_of One old.state.version ((s, x) ∷ [])) old p) is has

-- it was invalid
pub one_kept : (q : List Submission) (old p : PublishedView) (caps : Caps) → length q ≡ 1 → HasRound (tried_round One old q) old p → p.state ≡ old.state → HasRound (one_round (plain old.state) old.state.version caps q) old p
one_kept [] old p caps single has same = absurd (omega (arith, single))
one_kept (s ∷ []) old p caps single has same =
    round_by s (verdict_in_run (reason (plain old.state) s.update)) (with_verdict_alone (plain old.state) caps s).1 old p
    (verdict_kept old.state.version s (reason (plain old.state) s.update) (over (rows (effect (plain old.state) s.update.act)) caps) (sym has.version ∙ ap (λ (x : StateView). x.version) same)) has
one_kept (s ∷ x ∷ xs) old p caps single has same = absurd (omega (arith, single))

-- it fits
pub one_done : (q : List Submission) (old p : PublishedView) (caps : Caps) → length q ≡ 1 → HasRound (tried_round One old q) old p → over (rows (after_run (plain old.state) q)) caps ≡ None → HasRound (one_round (plain old.state) old.state.version caps q) old p
one_done [] old p caps single has fits = absurd (omega (arith, single))
one_done (s ∷ []) old p caps single has fits =
    round_by s (verdict_in_run (reason (plain old.state) s.update)) (with_verdict_alone (plain old.state) caps s).1 old p (verdict_done (plain old.state) caps s (reason (plain old.state) s.update) fits) has
one_done (s ∷ x ∷ xs) old p caps single has fits = absurd (omega (arith, single))

-- it doesn't
pub one_full : (q : List Submission) (old p r : PublishedView) (caps : Caps) (t : Table) → length q ≡ 1 → HasRound (tried_round One old q) old p → p.state.version ≡ old.state.version + 1 → over (rows (after_run (plain old.state) q)) caps ≡ Some t → HasRound (round_of One old.state.version (refused_first t q)) old r → HasRound (one_round (plain old.state) old.state.version caps q) old r
one_full [] old p r caps t single has later full refused = absurd (omega (arith, single))
one_full (s ∷ []) old p r caps t single has later full refused =
    round_by s (Full t) (with_verdict_alone (plain old.state) caps s).1 old r (verdict_full (plain old.state) old.state.version caps s (reason (plain old.state) s.update) t (sym has.version ∙ later) full) refused
one_full (s ∷ x ∷ xs) old p r caps t single has later full refused = absurd (omega (arith, single))

one_is_right : (q : List Submission) (m : PlainState) (v : ℕ) (caps : Caps) → length q ≡ 1 → IsRightAs (one_round m v caps q).kind caps m v (one_round m v caps q).entries
one_is_right [] m v caps single = absurd (omega (arith, single))
one_is_right (s ∷ ss) m v caps single = one_right m v caps s

-- what a round of one leaves is a core
one_core : (q : List Submission) (old : CoreView) (p : PublishedView) (raw : Tables) (caps : Caps) (writes : ℕ) (a : AudienceView) → length q ≡ 1 → IsCore old → IsPublished old.published → HasRound (one_round (plain old.published.state) old.published.state.version old.caps q) old.published p → caps ≡ old.caps → view_of raw ≡ rows (plain p.state) → IsHeard (journal_of p) p.state a →
    IsCore (record { raw = raw; caps = caps; writes = writes; published = p; audience = a })
one_core q old p raw caps writes a single core is has caps_is view heard = core_after (one_round (plain old.published.state) old.published.state.version old.caps q) old p raw caps writes a core is (one_is_right q (plain old.published.state) old.published.state.version old.caps single) has caps_is view heard

-- the state stayed, and so did the tables
pub still_shown : (old : CoreView) (p : PublishedView) (raw : Tables) → IsCore old → raw ≡ old.raw → p.state ≡ old.published.state → view_of raw ≡ rows (plain p.state)
still_shown old p raw core raw_is same = ap view_of raw_is ∙ core.view ∙ ap (λ (s : StateView). rows (plain s)) (sym same)

one_over : (q : List Submission) (old : CoreView) (p : PublishedView) (changes : RowChanges) (answer : Option Table) → IsCore old → HasRound (tried_round One old.published q) old.published p → IsChange old.published p changes →
    answer ≡ over (changed_rows changes (view_of old.raw)) old.caps → over (rows (after_run (plain old.published.state) q)) old.caps ≡ answer
one_over q old p changes answer core has is first = sym (first ∙ ap (λ (x : Rows). over x old.caps) (new_there (rows (plain old.published.state)) (rows (plain p.state)) old.raw changes core.view is.rows ∙ ap rows (run_plain One q old.published p has)))

one_count : (q : List Submission) (old p : PublishedView) (changes : RowChanges) → HasRound (tried_round One old q) old p → IsChange old p changes → differing changes ≡ differ (rows (plain old.state)) (rows (after_run (plain old.state) q))
one_count q old p changes has is = is.rows.count ∙ ap (λ (m : PlainState). differ (rows (plain old.state)) (rows m)) (run_plain One q old p has)

-- the round, in terms of the core after it
one_made : (q : List Submission) (old : CoreView) (p : PublishedView) (raw : Tables) (caps : Caps) (writes : ℕ) (a : AudienceView) → HasRound (one_round (plain old.published.state) old.published.state.version old.caps q) old.published p → caps ≡ old.caps → (p.state.version ≡ old.published.state.version → raw ≡ old.raw) → writes ≤ old.writes + 4 * differing_after (plain old.published.state) q →
    HaveHeard old (record { raw = raw; caps = caps; writes = writes; published = p; audience = a }) → IsOne q old (record { raw = raw; caps = caps; writes = writes; published = p; audience = a })
one_made q old p raw caps writes a has caps_is same few heard = record { published = has; caps = caps_is; writes = few; same = same; heard = heard }

-- it was invalid: the chip stays, and nobody is told

pub one_kept_made : (q : List Submission) (old : CoreView) (p : PublishedView) → length q ≡ 1 → HasRound (tried_round One old.published q) old.published p → p.state ≡ old.published.state → IsOne q old (record old { published = p })
one_kept_made q old p single has same = one_made q old p old.raw old.caps old.writes old.audience (one_kept q old.published p old.caps single has same) refl (λ _. refl) (omega arith) (nothing_heard old p old.raw old.caps old.writes same)

pub one_kept_core : (q : List Submission) (old : CoreView) (p : PublishedView) → length q ≡ 1 → IsCore old → IsPublished old.published → HasRound (tried_round One old.published q) old.published p → p.state ≡ old.published.state → IsCore (record old { published = p })
one_kept_core q old p single core is has same = one_core q old p old.raw old.caps old.writes old.audience single core is (one_kept q old.published p old.caps single has same) refl (still_shown old p old.raw core refl same) (stayed_heard (tried_round One old.published q) old p core has same)

-- it was written, and the observers were told

pub one_ok : (q : List Submission) (old : CoreView) (p : PublishedView) (changes : RowChanges) (raw : Tables) (caps : Caps) (writes : ℕ) (a : AudienceView) → length q ≡ 1 → IsCore old → HasRound (tried_round One old.published q) old.published p → IsChange old.published p changes →
    None ≡ over (changed_rows changes (view_of old.raw)) old.caps → caps ≡ old.caps → writes ≤ old.writes + 2 * differing changes → WereTold p.state old.audience a → IsOne q old (record { raw = raw; caps = caps; writes = writes; published = p; audience = a })
one_ok q old p changes raw caps writes a single core has is first caps_is few told =
    let count = one_count q old.published p changes has is in
    one_made q old p raw caps writes a (one_done q old.published p old.caps single has (one_over q old p changes None core has is first)) caps_is (λ e. absurd (omega (arith, e, is.later))) (omega (arith, few, count)) (new_heard old p raw caps writes a is.later told)

pub one_ok_core : (q : List Submission) (old : CoreView) (p : PublishedView) (changes : RowChanges) (raw : Tables) (caps : Caps) (writes : ℕ) (a : AudienceView) → length q ≡ 1 → IsCore old → IsPublished old.published → IsPublished p → HasRound (tried_round One old.published q) old.published p → IsChange old.published p changes →
    None ≡ over (changed_rows changes (view_of old.raw)) old.caps → view_of raw ≡ changed_rows changes (view_of old.raw) → caps ≡ old.caps → WereTold p.state old.audience a → IsCore (record { raw = raw; caps = caps; writes = writes; published = p; audience = a })
one_ok_core q old p changes raw caps writes a single core pub_is new has is first view caps_is told =
    let done = one_done q old.published p old.caps single has (one_over q old p changes None core has is first) in
    let r : Round = one_round (plain old.published.state) old.published.state.version old.caps q in
    one_core q old p raw caps writes a single core pub_is done caps_is
    (view ∙ new_there (rows (plain old.published.state)) (rows (plain p.state)) old.raw changes core.view is.rows)
    (told_heard r old p a core new (legal_after r old p core pub_is (one_is_right q (plain old.published.state) old.published.state.version old.caps single) done) done told)

-- it was undone, and refused

one_no : (q : List Submission) (old : CoreView) (p r : PublishedView) (changes : RowChanges) (table : Table) → length q ≡ 1 → IsCore old → HasRound (tried_round One old.published q) old.published p → IsChange old.published p changes →
    Some table ≡ over (changed_rows changes (view_of old.raw)) old.caps → HasRound (round_of One old.published.state.version (refused_first table q)) old.published r →
    HasRound (one_round (plain old.published.state) old.published.state.version old.caps q) old.published r
one_no q old p r changes table single core has is first refused = one_full q old.published p r old.caps table single has is.later (one_over q old p changes (Some table) core has is first) refused

pub one_refused : (q : List Submission) (old : CoreView) (p r : PublishedView) (changes : RowChanges) (table : Table) (raw : Tables) (caps : Caps) (writes : ℕ) → length q ≡ 1 → IsCore old → HasRound (tried_round One old.published q) old.published p → IsChange old.published p changes →
    Some table ≡ over (changed_rows changes (view_of old.raw)) old.caps → raw ≡ old.raw → caps ≡ old.caps → writes ≤ old.writes + 4 * differing changes → HasRound (round_of One old.published.state.version (refused_first table q)) old.published r → r.state ≡ old.published.state →
    IsOne q old (record { raw = raw; caps = caps; writes = writes; published = r; audience = old.audience })
one_refused q old p r changes table raw caps writes single core has is first raw_is caps_is few refused same =
    let count = one_count q old.published p changes has is in
    one_made q old r raw caps writes old.audience (one_no q old p r changes table single core has is first refused) caps_is (λ _. raw_is) (omega (arith, few, count)) (nothing_heard old r raw caps writes same)

pub one_refused_core : (q : List Submission) (old : CoreView) (p r : PublishedView) (changes : RowChanges) (table : Table) (raw : Tables) (caps : Caps) (writes : ℕ) → length q ≡ 1 → IsCore old → IsPublished old.published → HasRound (tried_round One old.published q) old.published p → IsChange old.published p changes →
    Some table ≡ over (changed_rows changes (view_of old.raw)) old.caps → raw ≡ old.raw → caps ≡ old.caps → HasRound (round_of One old.published.state.version (refused_first table q)) old.published r → r.state ≡ old.published.state →
    IsCore (record { raw = raw; caps = caps; writes = writes; published = r; audience = old.audience })
one_refused_core q old p r changes table raw caps writes single core pub_is has is first raw_is caps_is refused same =
    one_core q old r raw caps writes old.audience single core pub_is (one_no q old p r changes table single core has is first refused) caps_is (still_shown old r raw core raw_is same) (stayed_heard (round_of One old.published.state.version (refused_first table q)) old r core refused same)
