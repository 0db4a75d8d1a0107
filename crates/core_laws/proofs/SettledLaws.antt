-- Rounds of a core as rounds of its journal.
use Rattle.std.proofs.Common.{◌≡◌, ◌≢◌, ◌≤◌, ◌<◌, ◌+◌, ◌*◌, ℕ, Option, Some, None, List, [], ◌∷◌, length, take, refl, sym, ap, subst, ◌∙◌, arith}
use Rattle.journal_laws.proofs.SettledLaws.{one_where, whole_where}
use Rattle.journal_laws.specs.Settling.{after_run, after_runs}
use Rattle.net_types.specs.Capacity.{over}
use Rattle.net_types.specs.declared.table.Caps.{Caps}
use Rattle.net_types.specs.declared.table.Table.{Table}
use Rattle.switch_model.specs.declared.act.Submission.{Submission}
use Rattle.switch_model.specs.declared.journal.Round.{Round}
use Rattle.switch_model.specs.Journal.{Journal, version_of, with_round}
use Rattle.switch_model.specs.Legal.{IsRun}
use Rattle.switch_model.specs.PlainState.{PlainState}
use Rattle.switch_model.specs.Round.{next_round, one_round, settled}
use Rattle.switch_model.specs.Rows.{rows}
use Rattle.switch_state.proofs.Following.{follows_third}
use Rattle.switch_state.specs.Follows.{Follows}
use Rattle.switch_state.specs.Plain.{plain}
use Rattle.core_laws.specs.Audience.{AudienceView, WereTold}
use Rattle.core_laws.specs.Published.{CoreView, IsCore, IsPublished, PublishedView, journal_of}
use Rattle.core_laws.specs.Rounds.{AreSettled, HasRound, HaveHeard, IsOne, IsSettled, IsTooMuch, IsWhole}
use Rattle.core_laws.specs.Writes.{differing_after, most_writes}
use Rattle.core_laws.proofs.PublishedLaws.{journal_after}

-- the first of a run, which isn't empty
pub run_some : (q : List Submission) → IsRun q → 0 < length q
run_some [] is = absurd (is.0 refl)
run_some (s ∷ ss) is = omega arith

settled_there : (q : List Submission) (old : CoreView) → IsCore old → IsPublished old.published → next_round (journal_of old.published) q ≡ settled (plain old.published.state) old.published.state.version old.caps q
settled_there q old core is =
    ap (λ (m : PlainState). settled m (version_of (journal_of old.published)) old.published.caps q) (sym is.plain)
    ∙ ap (λ (v : ℕ). settled (plain old.published.state) v old.published.caps q) (sym is.version)
    ∙ ap (λ (k : Caps). settled (plain old.published.state) old.published.state.version k q) core.caps

-- a whole round is the journal's next one

pub whole_journal : (q : List Submission) (old new : CoreView) → IsCore old → IsPublished old.published → IsWhole q old new → journal_of new.published ≡ with_round (journal_of old.published) (next_round (journal_of old.published) q)
whole_journal q old new core is done =
    journal_after _ old.published new.published done.published
    ∙ ap (with_round (journal_of old.published)) (sym (settled_there q old core is ∙ whole_where (plain old.published.state) old.published.state.version old.caps q done.fits))

pub whole_writes : (q : List Submission) (old new : CoreView) → IsWhole q old new → new.writes ≤ old.writes + most_writes (plain old.published.state) old.caps q
whole_writes q old new done = rw done.fits done.writes

pub whole_settled : (q : List Submission) (old new : CoreView) → IsCore old → IsPublished old.published → IsWhole q old new → IsSettled q old new
whole_settled q old new core is done = record {
  journal = whole_journal q old new core is done;
  base = done.published.base;
  follows = done.published.follows;
  raw = done.same;
  state = done.published.same;
  caps = done.caps;
  writes = whole_writes q old new done;
  heard = done.heard;
}

-- and so is a round of the first, after the whole run was tried

one_at : (m : PlainState) (v : ℕ) (caps : Caps) (q first : List Submission) → 0 < length q → first ≡ take 1 q → one_round m v caps first ≡ one_round m v caps q
one_at m v caps [] first some is = absurd (omega (arith, some))
one_at m v caps (s ∷ ss) first some is = ap (one_round m v caps) is

one_has : (q first : List Submission) (old mid new : CoreView) → 0 < length q → first ≡ take 1 q → IsTooMuch q old mid → IsOne first mid new → HasRound (one_round (plain old.published.state) old.published.state.version old.caps q) old.published new.published
one_has q first old mid new some is tried done =
    let has : HasRound (one_round (plain old.published.state) old.published.state.version old.caps first) old.published new.published = rw (← tried.published, ← tried.caps) done.published in
    subst (λ (r : Round). HasRound r old.published new.published) (one_at (plain old.published.state) old.published.state.version old.caps q first some is) has

pub one_journal : (q first : List Submission) (old mid new : CoreView) → IsRun q → first ≡ take 1 q → IsCore old → IsPublished old.published → IsTooMuch q old mid → IsOne first mid new → journal_of new.published ≡ with_round (journal_of old.published) (next_round (journal_of old.published) q)
one_journal q first old mid new run is core published tried done =
    journal_after (one_round (plain old.published.state) old.published.state.version old.caps q) old.published new.published (one_has q first old mid new (run_some q run) is tried done)
    ∙ ap (with_round (journal_of old.published)) (sym (settled_there q old core published ∙ one_where (plain old.published.state) old.published.state.version old.caps q tried.over))

most_over : (m : PlainState) (caps : Caps) (q : List Submission) (o : Option Table) → over (rows (after_run m q)) caps ≡ o → o ≢ None → most_writes m caps q ≡ 4 * differing_after m q + 4 * differing_after m (take 1 q)
most_over m caps q None e over_it = absurd (over_it refl)
most_over m caps q (Some t) e over_it = rw e refl

pub one_writes : (q first : List Submission) (old mid new : CoreView) → first ≡ take 1 q → IsTooMuch q old mid → IsOne first mid new → new.writes ≤ old.writes + most_writes (plain old.published.state) old.caps q
one_writes q first old mid new is tried done =
    let second : new.writes ≤ mid.writes + 4 * differing_after (plain old.published.state) (take 1 q) = rw (← is, ← tried.published) done.writes in
    let most = most_over (plain old.published.state) old.caps q (over (rows (after_run (plain old.published.state) q)) old.caps) refl tried.over in
    omega (arith, second, tried.writes, most)

one_heard : (q : List Submission) (old mid new : CoreView) → IsTooMuch q old mid → HaveHeard mid new → HaveHeard old new
one_heard q old mid new tried heard =
    let same : mid.published.state.version ≡ old.published.state.version = ap (λ (p : PublishedView). p.state.version) tried.published in
    record {
      told = λ rose. subst (λ (a : AudienceView). WereTold new.published.state a new.audience) tried.audience (heard.told (λ e. rose (e ∙ same)));
      stayed = λ e. heard.stayed (e ∙ sym same) ∙ tried.audience;
    }

pub one_settled : (q first : List Submission) (old mid new : CoreView) → IsRun q → first ≡ take 1 q → IsCore old → IsPublished old.published → IsTooMuch q old mid → IsOne first mid new → IsSettled q old new
one_settled q first old mid new run is core published tried done =
    let same : mid.published.state.version ≡ old.published.state.version = ap (λ (p : PublishedView). p.state.version) tried.published in
    record {
      journal = one_journal q first old mid new run is core published tried done;
      base = done.published.base ∙ ap (λ (p : PublishedView). p.base) tried.published;
      follows = rw (← tried.published) done.published.follows;
      raw = λ e. done.same (e ∙ sym same) ∙ tried.raw;
      state = λ e. done.published.same (e ∙ sym same) ∙ ap (λ (p : PublishedView). p.state) tried.published;
      caps = done.caps ∙ tried.caps;
      writes = one_writes q first old mid new is tried done;
      heard = one_heard q old mid new tried done.heard;
    }

-- rounds in turn

pub runs_journal : (qs : List (List Submission)) (old new : CoreView) → AreSettled qs old new → journal_of new.published ≡ after_runs (journal_of old.published) qs
runs_journal [] old new are = ap (λ (c : CoreView). journal_of c.published) are
runs_journal (q ∷ qs) old new are = runs_journal qs are.0 new are.2 ∙ ap (λ (j : Journal). after_runs j qs) are.1.journal

pub runs_follow : (qs : List (List Submission)) (old new : CoreView) → Follows old.published.state old.published.state → AreSettled qs old new → Follows old.published.state new.published.state
runs_follow [] old new itself are = subst (λ (c : CoreView). Follows old.published.state c.published.state) (sym are) itself
runs_follow (q ∷ qs) old new itself are = runs_on qs old are.0 new are.1.follows are.2
  where
    runs_on : (ps : List (List Submission)) (first second third : CoreView) → Follows first.published.state second.published.state → AreSettled ps second third → Follows first.published.state third.published.state
    runs_on [] first second third follows are = subst (λ (c : CoreView). Follows first.published.state c.published.state) (sym are) follows
    runs_on (p ∷ ps) first second third follows are = runs_on ps first are.0 third (follows_third follows are.1.follows) are.2

pub runs_base : (qs : List (List Submission)) (old new : CoreView) → AreSettled qs old new → new.published.base ≡ old.published.base
runs_base [] old new are = ap (λ (c : CoreView). c.published.base) are
runs_base (q ∷ qs) old new are = runs_base qs are.0 new are.2 ∙ are.1.base

pub runs_caps : (qs : List (List Submission)) (old new : CoreView) → AreSettled qs old new → new.caps ≡ old.caps
runs_caps [] old new are = ap (λ (c : CoreView). c.caps) are
runs_caps (q ∷ qs) old new are = runs_caps qs are.0 new are.2 ∙ are.1.caps
