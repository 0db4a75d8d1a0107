-- What contracts see of one caller's agent.
use Rattle.std.specs.Prelude.{◌≡◌, ℕ, Bool, List, map}
use Rattle.core_laws.specs.Audience.{AudienceView}
use Rattle.core_laws.specs.Published.{CoreView, journal_of}
use Rattle.solo_laws.specs.Waiting.{sent_of}
use Rattle.switch_model.specs.declared.act.Submission.{Submission}
use Rattle.switch_model.specs.Journal.{Journal}
use Rattle.told_laws.specs.Course.{Course}

-- a core, what waits for it, and how much may be submitted
pub record DeskView : Type 0 where
  pub core : CoreView
  pub waiting : List Submission
  pub limit : ℕ

-- the journal of what was published
abbrev pub journal : DeskView → Journal
journal d = journal_of d.core.published

-- all that was submitted
abbrev pub sent : DeskView → List Submission
sent d = sent_of (journal d) d.waiting

-- which observers are sure
abbrev pub sures : AudienceView → List Bool
sures a = map (λ w. w.sure) a.watches

-- the switch is the same one: its journal has the same opening, its chip the same capacities, and the same of its observers are sure
pub record IsSameSwitch (old new : CoreView) : Type 0 where
  pub base : new.published.base ≡ old.published.base
  pub caps : new.caps ≡ old.caps
  pub sures : sures new.audience ≡ sures old.audience

-- nothing more was submitted
pub record Stays (old new : DeskView) : Type 0 where
  pub switch : IsSameSwitch old.core new.core
  pub limit : new.limit ≡ old.limit
  pub sent : sent new ≡ sent old

-- one caller's agent: its core, how many updates may be submitted, and what the caller's lines have led to
pub record SoloView : Type 0 where
  pub core : CoreView
  pub limit : ℕ
  pub course : Course

-- the switch and the limit are the same
pub record Kept (old new : SoloView) : Type 0 where
  pub switch : IsSameSwitch old.core new.core
  pub limit : new.limit ≡ old.limit

-- no update was submitted and no ticket taken away
pub record Goes (old new : SoloView) : Type 0 where
  pub kept : Kept old new
  pub sent : new.course.sent ≡ old.course.sent
  pub tickets : new.course.tickets ≡ old.course.tickets
