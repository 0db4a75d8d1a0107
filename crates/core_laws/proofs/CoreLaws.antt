-- What one more round does to a core: the whole run.
use Rattle.std.proofs.Common.{◌≡◌, ◌≤◌, ◌+◌, ◌*◌, ℕ, Option, Some, None, List, refl, sym, ap, subst, ◌∙◌, arith}
use Rattle.chip_core.specs.Changes.{changed_rows}
use Rattle.chip_core.specs.Chip.{view_of}
use Rattle.chip_core.specs.declared.changes.RowChanges.{RowChanges}
use Rattle.hw_undo.specs.Counts.{differing}
use Rattle.journal_laws.proofs.LegalLaws.{legal_fits, legal_push}
use Rattle.journal_laws.proofs.SettledLaws.{whole_state}
use Rattle.journal_laws.specs.Settling.{after_run}
use Rattle.keyed.specs.Cases.{some_none}
use Rattle.net_types.specs.Capacity.{over, Fits}
use Rattle.net_types.specs.Differ.{differ}
use Rattle.net_types.specs.Rows.{Rows}
use Rattle.net_types.specs.declared.table.Caps.{Caps}
use Rattle.net_types.specs.declared.table.Table.{Table}
use Rattle.net_types.specs.declared.table.Tables.{Tables}
use Rattle.switch_laws.proofs.JournalLaws.{sound-fold}
use Rattle.switch_model.specs.declared.act.Submission.{Submission}
use Rattle.switch_model.specs.declared.journal.Round.{Round}
use Rattle.switch_model.specs.declared.journal.RoundKind.{RoundKind}
use Rattle.switch_model.specs.declared.journal.RoundKind.TheVariants.{Whole}
use Rattle.switch_model.specs.Journal.{fold, version_of}
use Rattle.switch_model.specs.Legal.{IsLegal, IsRightAs, IsRun}
use Rattle.switch_model.specs.PlainState.{PlainState}
use Rattle.switch_model.specs.Round.{whole_round}
use Rattle.switch_model.specs.Rows.{rows}
use Rattle.switch_model.specs.Sound.{IsSound}
use Rattle.switch_state.specs.Plain.{plain}
use Rattle.switch_state.specs.StateView.{StateView}
use Rattle.core_laws.specs.Audience.{AudienceView, IsHeard, WereTold}
use Rattle.core_laws.specs.Changes.{AreChanges}
use Rattle.core_laws.specs.Published.{CoreView, IsCore, IsPublished, PublishedView, journal_of}
use Rattle.core_laws.specs.Rounds.{HasRound, HaveHeard, IsAttempt, IsChange, IsTooMuch, IsWhole, tried_round}
use Rattle.core_laws.proofs.AudienceLaws.{heard_stays, heard_told}
use Rattle.core_laws.proofs.ChangeLaws.{new_there}
use Rattle.core_laws.proofs.JudgedLaws.{whole_right}
use Rattle.core_laws.proofs.PublishedLaws.{journal_after, journal_begins, whole_plain}

right_there : (kind : RoundKind) (caps caps2 : Caps) (m n : PlainState) (v w : ℕ) (r : Round) → caps2 ≡ caps → m ≡ n → v ≡ w → IsRightAs kind caps m v r.entries → IsRightAs kind caps2 n w r.entries
right_there kind caps caps2 m n v w r caps_is m_is v_is right =
    subst (λ (x : PlainState). IsRightAs kind caps2 x w r.entries) m_is (subst (λ (x : ℕ). IsRightAs kind caps2 m x r.entries) v_is (subst (λ (x : Caps). IsRightAs kind x m v r.entries) (sym caps_is) right))

-- the journal with a right round is legal
pub legal_after : (r : Round) (old : CoreView) (p : PublishedView) → IsCore old → IsPublished old.published → IsRightAs r.kind old.caps (plain old.published.state) old.published.state.version r.entries → HasRound r old.published p → IsLegal (journal_of p)
legal_after r old p core is right has =
    subst IsLegal (sym (journal_after r old.published p has)) (legal_push (journal_of old.published) r core.legal (right_there r.kind old.caps old.published.caps (plain old.published.state) (fold (journal_of old.published)) old.published.state.version (version_of (journal_of old.published)) r core.caps is.plain is.version right))

-- a right round, a chip that shows the rows of the state after it, and observers that were told or had nothing to hear
pub core_after : (r : Round) (old : CoreView) (p : PublishedView) (raw : Tables) (caps : Caps) (writes : ℕ) (a : AudienceView) → IsCore old → IsPublished old.published →
    IsRightAs r.kind old.caps (plain old.published.state) old.published.state.version r.entries → HasRound r old.published p → caps ≡ old.caps → view_of raw ≡ rows (plain p.state) → IsHeard (journal_of p) p.state a →
    IsCore (record { raw = raw; caps = caps; writes = writes; published = p; audience = a })
core_after r old p raw caps writes a core is right has caps_is view heard = record {
  legal = legal_after r old p core is right has;
  sound = subst (λ (s : StateView). IsSound (plain s)) (sym has.base) core.sound;
  caps = has.caps ∙ core.caps ∙ sym caps_is;
  view = view;
  heard = heard;
}

-- the rows of the state fit
pub core_fits : (c : CoreView) → IsCore c → IsPublished c.published → Fits (rows (plain c.published.state)) c.caps
core_fits c core is =
    let fits : Fits (rows (fold (journal_of c.published))) c.published.caps = legal_fits (journal_of c.published) core.legal in
    subst (λ (k : Caps). Fits (rows (plain c.published.state)) k) core.caps (subst (λ (m : PlainState). Fits (rows m) c.published.caps) (sym is.plain) fits)

-- the state is sound
pub core_sound : (c : CoreView) → IsCore c → IsPublished c.published → IsSound (plain c.published.state)
core_sound c core is = subst (λ (m : PlainState). IsSound m) (sym is.plain) (sound-fold (journal_of c.published) core.legal core.sound)

-- the observers after a round in which the state stayed
pub stayed_heard : (r : Round) (old : CoreView) (p : PublishedView) → IsCore old → HasRound r old.published p → p.state ≡ old.published.state → IsHeard (journal_of p) p.state old.audience
stayed_heard r old p core has same = heard_stays (journal_of old.published) (journal_of p) old.published.state p.state old.audience (journal_begins r old.published p has) same core.heard

-- and after one in which they were told of a new one
pub told_heard : (r : Round) (old : CoreView) (p : PublishedView) (a : AudienceView) → IsCore old → IsPublished p → IsLegal (journal_of p) → HasRound r old.published p → WereTold p.state old.audience a → IsHeard (journal_of p) p.state a
told_heard r old p a core new legal has told = heard_told (journal_of old.published) (journal_of p) old.published.state p.state old.audience a (journal_begins r old.published p has) legal has.follows new.version new.plain new.fib core.heard told

-- what the observers heard, in terms of the core after the round

pub nothing_heard : (old : CoreView) (p : PublishedView) (raw : Tables) (caps : Caps) (writes : ℕ) → p.state ≡ old.published.state → HaveHeard old (record { raw = raw; caps = caps; writes = writes; published = p; audience = old.audience })
nothing_heard old p raw caps writes same = record {
  told = λ rose. absurd (rose (ap (λ (s : StateView). s.version) same));
  stayed = λ _. refl;
}

pub new_heard : (old : CoreView) (p : PublishedView) (raw : Tables) (caps : Caps) (writes : ℕ) (a : AudienceView) → p.state.version ≡ old.published.state.version + 1 → WereTold p.state old.audience a → HaveHeard old (record { raw = raw; caps = caps; writes = writes; published = p; audience = a })
new_heard old p raw caps writes a later told = record {
  told = λ _. told;
  stayed = λ e. absurd (omega (arith, e, later));
}

whole_is_right : (q : List Submission) (old : CoreView) → IsRun q → Fits (rows (after_run (plain old.published.state) q)) old.caps → IsRightAs Whole old.caps (plain old.published.state) old.published.state.version (whole_round (plain old.published.state) old.published.state.version q).entries
whole_is_right q old run fits = whole_right (plain old.published.state) old.published.state.version old.caps q run (ap (λ (m : PlainState). over (rows m) old.caps) (whole_state (plain old.published.state) old.published.state.version q) ∙ fits)

-- nothing was accepted: the chip stays, and nobody is told

kept_fits : (q : List Submission) (old : CoreView) (p : PublishedView) → IsCore old → IsPublished old.published → HasRound (whole_round (plain old.published.state) old.published.state.version q) old.published p → p.state ≡ old.published.state → Fits (rows (after_run (plain old.published.state) q)) old.caps
kept_fits q old p core is has same = ap (λ (m : PlainState). over (rows m) old.caps) (sym (whole_plain q old.published p has) ∙ ap (λ (s : StateView). plain s) same) ∙ core_fits old core is

pub kept_core : (q : List Submission) (old : CoreView) (p : PublishedView) → IsCore old → IsPublished old.published → IsRun q → HasRound (whole_round (plain old.published.state) old.published.state.version q) old.published p → p.state ≡ old.published.state → IsCore (record old { published = p })
kept_core q old p core is run has same =
    let r : Round = whole_round (plain old.published.state) old.published.state.version q in
    core_after r old p old.raw old.caps old.writes old.audience core is (whole_is_right q old run (kept_fits q old p core is has same)) has refl (core.view ∙ ap (λ (s : StateView). rows (plain s)) (sym same)) (stayed_heard r old p core has same)

pub kept_whole : (q : List Submission) (old : CoreView) (p : PublishedView) → IsCore old → IsPublished old.published → HasRound (whole_round (plain old.published.state) old.published.state.version q) old.published p → p.state ≡ old.published.state → IsWhole q old (record old { published = p })
kept_whole q old p core is has same = record {
  fits = kept_fits q old p core is has same;
  published = has;
  caps = refl;
  writes = omega arith;
  same = λ _. refl;
  heard = nothing_heard old p old.raw old.caps old.writes same;
}

whole_over : (q : List Submission) (old : CoreView) (p : PublishedView) (changes : RowChanges) (answer : Option Table) → IsCore old → HasRound (whole_round (plain old.published.state) old.published.state.version q) old.published p → AreChanges (rows (plain old.published.state)) (rows (plain p.state)) changes →
    answer ≡ over (changed_rows changes (view_of old.raw)) old.caps → over (rows (after_run (plain old.published.state) q)) old.caps ≡ answer
whole_over q old p changes answer core has are first = sym (first ∙ ap (λ (x : Rows). over x old.caps) (new_there (rows (plain old.published.state)) (rows (plain p.state)) old.raw changes core.view are ∙ ap rows (whole_plain q old.published p has)))

whole_count : (q : List Submission) (old p : PublishedView) (changes : RowChanges) → HasRound (whole_round (plain old.state) old.state.version q) old p → AreChanges (rows (plain old.state)) (rows (plain p.state)) changes → differing changes ≡ differ (rows (plain old.state)) (rows (after_run (plain old.state) q))
whole_count q old p changes has are = are.count ∙ ap (λ (m : PlainState). differ (rows (plain old.state)) (rows m)) (whole_plain q old p has)

-- the whole run was written, and the observers were told

pub done_whole : (q : List Submission) (old : CoreView) (p : PublishedView) (changes : RowChanges) (raw : Tables) (caps : Caps) (writes : ℕ) (a : AudienceView) → IsCore old → HasRound (whole_round (plain old.published.state) old.published.state.version q) old.published p → IsChange old.published p changes →
    None ≡ over (changed_rows changes (view_of old.raw)) old.caps → caps ≡ old.caps → writes ≤ old.writes + 2 * differing changes → WereTold p.state old.audience a →
    IsWhole q old (record { raw = raw; caps = caps; writes = writes; published = p; audience = a })
done_whole q old p changes raw caps writes a core has is first caps_is few told =
    let count = whole_count q old.published p changes has is.rows in
    record {
      fits = whole_over q old p changes None core has is.rows first;
      published = has;
      caps = caps_is;
      writes = subst (λ (n : ℕ). writes ≤ old.writes + 2 * n) count few;
      same = λ e. absurd (omega (arith, e, is.later));
      heard = new_heard old p raw caps writes a is.later told;
    }

pub done_core : (q : List Submission) (old : CoreView) (p : PublishedView) (changes : RowChanges) (raw : Tables) (caps : Caps) (writes : ℕ) (a : AudienceView) → IsCore old → IsPublished old.published → IsPublished p → IsRun q → HasRound (whole_round (plain old.published.state) old.published.state.version q) old.published p → IsChange old.published p changes →
    None ≡ over (changed_rows changes (view_of old.raw)) old.caps → view_of raw ≡ changed_rows changes (view_of old.raw) → caps ≡ old.caps → WereTold p.state old.audience a →
    IsCore (record { raw = raw; caps = caps; writes = writes; published = p; audience = a })
done_core q old p changes raw caps writes a core pub_is new run has is first view caps_is told =
    let r : Round = whole_round (plain old.published.state) old.published.state.version q in
    let right = whole_is_right q old run (whole_over q old p changes None core has is.rows first) in
    core_after r old p raw caps writes a core pub_is right has caps_is
    (view ∙ new_there (rows (plain old.published.state)) (rows (plain p.state)) old.raw changes core.view is.rows)
    (told_heard r old p a core new (legal_after r old p core pub_is right has) has told)

-- the whole run was undone

pub undone_whole : (q : List Submission) (old : CoreView) (p : PublishedView) (changes : RowChanges) (table : Table) (raw : Tables) (caps : Caps) (writes : ℕ) → IsCore old → HasRound (whole_round (plain old.published.state) old.published.state.version q) old.published p → IsChange old.published p changes →
    Some table ≡ over (changed_rows changes (view_of old.raw)) old.caps → raw ≡ old.raw → caps ≡ old.caps → writes ≤ old.writes + 4 * differing changes →
    IsTooMuch q old (record { raw = raw; caps = caps; writes = writes; published = old.published; audience = old.audience })
undone_whole q old p changes table raw caps writes core has is first raw_is caps_is few = record {
  over = λ e. some_none (sym (whole_over q old p changes (Some table) core has is.rows first) ∙ e);
  raw = raw_is;
  published = refl;
  audience = refl;
  caps = caps_is;
  writes = subst (λ (n : ℕ). writes ≤ old.writes + 4 * n) (whole_count q old.published p changes has is.rows) few;
}

-- an undone commit leaves a core
pub undone_core : (old : CoreView) (raw : Tables) (caps : Caps) (writes : ℕ) → IsCore old → raw ≡ old.raw → caps ≡ old.caps → IsCore (record { raw = raw; caps = caps; writes = writes; published = old.published; audience = old.audience })
undone_core old raw caps writes core raw_is caps_is = record {
  legal = core.legal;
  sound = core.sound;
  caps = core.caps ∙ sym caps_is;
  view = ap view_of raw_is ∙ core.view;
  heard = core.heard;
}

-- in terms of an attempt

pub attempt_done : (q : List Submission) (old : CoreView) (p share : PublishedView) (changes : RowChanges) → IsAttempt (tried_round Whole old.published q) old.published p share (Some changes) → IsChange old.published p changes
attempt_done q old p share changes is = is.listed
