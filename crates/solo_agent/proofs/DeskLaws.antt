-- A core with what waits for it.
use Rattle.std.proofs.Common.{◌≡◌, ◌≤◌, ◌<◌, ◌+◌, ◌^◌, ℕ, List, [], ◌∷◌, length, drop, map, inl, inr, refl, sym, ap, subst, ◌∙◌, arith}
use Rattle.std.specs.List.{AllZip}
use native.Mathlib.Decide.{ℕ_discrete}
use mathlib.Core.Logic.{dite}
use Rattle.observers.specs.Turns.{WasTold}
use Rattle.observers.specs.Watch.{Watch}
use Rattle.journal_laws.proofs.RoundLaws.{len_push}
use Rattle.switch_state.specs.StateView.{StateView}
use Rattle.core_laws.specs.Published.{CoreView, IsCore, IsPublished, PublishedView, journal_of}
use Rattle.core_laws.specs.Rounds.{IsSettled}
use Rattle.solo_agent.specs.Views.{DeskView, IsSameSwitch, Stays, journal, sent, sures}
use Rattle.solo_laws.proofs.WaitingLaws.{IsNext, next_version, round_next, some_waits, until, until_next, until_there, waiting_start}
use Rattle.solo_laws.specs.Waiting.{IsWaiting, sent_of}
use Rattle.switch_model.specs.declared.act.Submission.{Submission}
use Rattle.switch_model.specs.Journal.{Journal, len, version_of}
use Rattle.switch_model.specs.Round.{next_round, run}
use Rattle.switch_state.specs.Plain.{plain}

-- nothing waits for a core whose journal is empty
pub waiting_open : (c : CoreView) (limit : ℕ) → IsCore c → c.published.rounds ≡ [] → version_of (journal_of c.published) + limit < 2 ^ 64 → IsWaiting limit (journal_of c.published) []
waiting_open c limit core none room =
    let empty : journal_of c.published ≡ record { opening = record { state = plain c.published.base; version = c.published.base.version; caps = c.published.caps }; rounds = [] } = λ i. record { opening = record { state = plain c.published.base; version = c.published.base.version; caps = c.published.caps }; rounds = none i } in
    let start = waiting_start (record { state = plain c.published.base; version = c.published.base.version; caps = c.published.caps }) limit core.legal.0 (subst (λ (j : Journal). version_of j + limit < 2 ^ 64) empty room) in
    subst (λ (j : Journal). IsWaiting limit j []) (sym empty) start

-- the switch stays the same one

pub switch_self : (c : CoreView) → IsSameSwitch c c
switch_self c = record { base = refl; caps = refl; sures = refl }

pub switch_trans : (a b c : CoreView) → IsSameSwitch a b → IsSameSwitch b c → IsSameSwitch a c
switch_trans a b c p q = record { base = q.base ∙ p.base; caps = q.caps ∙ p.caps; sures = q.sures ∙ p.sures }

pub stays_self : (d : DeskView) → Stays d d
stays_self d = record { switch = switch_self d.core; limit = refl; sent = refl }

pub stays_trans : (a b c : DeskView) → Stays a b → Stays b c → Stays a c
stays_trans a b c p q = record { switch = switch_trans a.core b.core c.core p.switch q.switch; limit = q.limit ∙ p.limit; sent = q.sent ∙ p.sent }

-- a round

-- how many entries it has
pub settled_count : (old new : CoreView) (ran : List Submission) (n : ℕ) → IsSettled ran old new → len (journal_of old.published) + n ≡ len (journal_of new.published) → n ≡ length (next_round (journal_of old.published) ran).entries
settled_count old new ran n s count =
    let e = ap len s.journal ∙ len_push (journal_of old.published) (next_round (journal_of old.published) ran) in omega (arith, count, e)

-- being told, or not, doesn't change who is sure

sure_told : (s : StateView) (w v : Watch) → WasTold s w v → v.sure ≡ w.sure
sure_told s w v (inl is) = ap (λ (x : Watch). x.sure) is
sure_told s w v (inr refused) = ap (λ (x : Watch). x.sure) refused.1

sures_told : (s : StateView) (ws vs : List Watch) → AllZip (WasTold s) ws vs → map (λ (w : Watch). w.sure) vs ≡ map (λ (w : Watch). w.sure) ws
sures_told s [] [] all = refl
sures_told s [] (v ∷ vs) all = absurd all
sures_told s (w ∷ ws) [] all = absurd all
sures_told s (w ∷ ws) (v ∷ vs) all = λ i. sure_told s w v all.0 i ∷ sures_told s ws vs all.1 i

settled_sures : (ran : List Submission) (old new : CoreView) → IsSettled ran old new → sures new.audience ≡ sures old.audience
settled_sures ran old new s = dite (ℕ_discrete new.published.state.version old.published.state.version)
    (λ same. ap sures (s.heard.stayed same))
    (λ other. sures_told new.published.state old.audience.watches new.audience.watches (s.heard.told other).watches)

-- after a refusal of memory nothing has changed that a caller sees
pub refused_stays : (limit : ℕ) (old new : CoreView) (p : List Submission) → new.published ≡ old.published → new.audience ≡ old.audience → new.caps ≡ old.caps → Stays (record { core = old; waiting = p; limit = limit }) (record { core = new; waiting = p; limit = limit })
refused_stays limit old new p published audience caps = record {
  switch = record { base = ap (λ (x : PublishedView). x.base) published; caps = caps; sures = ap sures audience };
  limit = refl;
  sent = ap (λ (x : PublishedView). sent_of (journal_of x) p) published;
}

pub round_version : (limit : ℕ) (p : PublishedView) (waiting : List Submission) → IsPublished p → IsWaiting limit (journal_of p) waiting → 1 ≤ length waiting → p.state.version + 1 < 2 ^ 64
round_version limit p waiting is holds some = subst (λ (v : ℕ). v + 1 < 2 ^ 64) (sym is.version) (next_version limit (journal_of p) waiting holds some)

pub settled_next : (limit : ℕ) (old new : CoreView) (p q ran : List Submission) (n : ℕ) → IsWaiting limit (journal_of old.published) p → 1 ≤ length p → ran ≡ run p → IsSettled ran old new → n ≡ length (next_round (journal_of old.published) ran).entries → q ≡ drop n p → IsNext limit (journal_of old.published) p (journal_of new.published) q
settled_next limit old new p q ran n holds some ran_is s n_is q_is = round_next limit (journal_of old.published) (journal_of new.published) p q ran n holds some ran_is s.journal n_is q_is

pub settled_stays : (limit : ℕ) (old new : CoreView) (p q ran : List Submission) → IsSettled ran old new → IsNext limit (journal_of old.published) p (journal_of new.published) q → Stays (record { core = old; waiting = p; limit = limit }) (record { core = new; waiting = q; limit = limit })
settled_stays limit old new p q ran s next = record { switch = record { base = s.base; caps = s.caps; sures = settled_sures ran old new s }; limit = refl; sent = next.sent }

-- rounds until a submission is settled
pub record IsOnWay (position : ℕ) (old now : DeskView) : Type 0 where
  pub stays : Stays old now
  pub there : position < length (sent now)
  pub ahead : until position (journal now) now.waiting ≡ until position (journal old) old.waiting

pub way_start : (position : ℕ) (d : DeskView) → position < length (sent d) → IsOnWay position d d
way_start position d there = record { stays = stays_self d; there = there; ahead = refl }

pub way_waits : (position : ℕ) (old now : DeskView) → IsOnWay position old now → len (journal now) ≤ position → 1 ≤ length now.waiting
way_waits position old now way behind = some_waits position (journal now) now.waiting way.there behind

pub way_next : (position : ℕ) (old now new : DeskView) → IsOnWay position old now → IsWaiting now.limit (journal now) now.waiting → len (journal now) ≤ position → Stays now new → IsNext now.limit (journal now) now.waiting (journal new) new.waiting → IsOnWay position old new
way_next position old now new way holds behind stays next = record {
  stays = stays_trans old now new way.stays stays;
  there = subst (λ (l : List Submission). position < length l) (sym stays.sent) way.there;
  ahead = until_next now.limit position (journal now) (journal new) now.waiting new.waiting holds way.there behind next ∙ way.ahead;
}

pub way_end : (position : ℕ) (old now : DeskView) → IsOnWay position old now → position < len (journal now) → journal now ≡ until position (journal old) old.waiting
way_end position old now way there = sym (until_there position (journal now) now.waiting there) ∙ way.ahead
