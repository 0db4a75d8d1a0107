-- The observers of a core, and where they stand.
use Rattle.std.specs.Prelude.{◌≡◌, ◌⊎◌, ℕ, true, List}
use Rattle.std.specs.List.{AllByRecursion, AllZip}
use Rattle.observers.specs.Turns.{WasTold}
use Rattle.observers.specs.Watch.{Watch, StandsAt, at_state}
use Rattle.switch_model.specs.Journal.{Journal, IsRoundEnd, fold, upto, version_of}
use Rattle.switch_model.specs.Totals.{totals}
use Rattle.switch_state.specs.Follows.{Follows}
use Rattle.switch_state.specs.StateView.{StateView}

-- what observers mean, and for each the state at which it stands
pub record AudienceView : Type 0 where
  pub watches : List Watch
  pub kept : List StateView

-- the observer stands at what the journal had published at the end of some round, or at its opening
pub record IsStanding (j : Journal) (w : Watch) : Type 0 where
  pub front : ℕ
  pub end : IsRoundEnd j front
  pub version : w.version ≡ version_of (upto j front)
  pub totals : w.totals ≡ totals (fold (upto j front))

-- the observer stands at the whole journal
pub record IsLatest (j : Journal) (w : Watch) : Type 0 where
  pub version : w.version ≡ version_of j
  pub totals : w.totals ≡ totals (fold j)

-- an observer that is sure, or never refused, is at the state
abbrev pub IsUpToDate : StateView → Watch → Type 0
IsUpToDate s w = (w.sure ≡ true) ⊎ (w.refusals ≡ 0) → StandsAt s w

-- each observer stands at the state that is kept for it, which the published state follows, and which was published; and each that is sure or never refused is at the last
pub record IsHeard (j : Journal) (s : StateView) (a : AudienceView) : Type 0 where
  pub stands : AllZip StandsAt a.kept a.watches
  pub follows : AllByRecursion (λ k. Follows k s) a.kept
  pub standing : AllByRecursion (IsStanding j) a.watches
  pub latest : AllByRecursion (IsUpToDate s) a.watches

-- each observer was begun at the state, which is kept for it
pub record WereBegun (s : StateView) (before now : AudienceView) : Type 0 where
  pub watches : AllZip (λ w v. v ≡ record (at_state s w) { refusals = 0 }) before.watches now.watches
  pub kept : AllByRecursion (λ k. k ≡ s) now.kept
  pub stands : AllZip StandsAt now.kept now.watches

-- each observer was told of the state, from where it stood
pub record WereTold (s : StateView) (before now : AudienceView) : Type 0 where
  pub watches : AllZip (WasTold s) before.watches now.watches
  pub kept : AllZip (λ k l. (l ≡ k) ⊎ (l ≡ s)) before.kept now.kept
  pub stands : AllZip StandsAt now.kept now.watches
