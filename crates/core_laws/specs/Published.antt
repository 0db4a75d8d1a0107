-- What contracts see of what is published, and of a core.
use Rattle.std.specs.Prelude.{ℕ, ◌≡◌, List}
use Rattle.chip_core.specs.Chip.{view_of}
use Rattle.net_types.specs.declared.table.Caps.{Caps}
use Rattle.net_types.specs.declared.table.Tables.{Tables}
use Rattle.switch_model.specs.declared.journal.Round.{Round}
use Rattle.switch_model.specs.Journal.{Journal, fold, version_of}
use Rattle.switch_model.specs.Legal.{IsLegal}
use Rattle.switch_model.specs.Rows.{rows}
use Rattle.switch_model.specs.Sound.{IsSound}
use Rattle.switch_state.specs.Plain.{plain}
use Rattle.switch_state.specs.StateView.{StateView}
use Rattle.state_laws.specs.Fib.{HasFib}
use Rattle.core_laws.specs.Audience.{AudienceView, IsHeard}

-- what is published: the opening state, the state, the rounds in between, and the capacities that the journal was opened with
pub record PublishedView : Type 0 where
  pub base : StateView
  pub state : StateView
  pub rounds : List Round
  pub caps : Caps

-- its journal
abbrev pub journal_of : PublishedView → Journal
journal_of p = record { opening = record { state = plain p.base; version = p.base.version; caps = p.caps }; rounds = p.rounds }

-- the state is what the journal gives, with its FIB
pub record IsPublished (p : PublishedView) : Type 0 where
  pub plain : plain p.state ≡ fold (journal_of p)
  pub version : p.state.version ≡ version_of (journal_of p)
  pub fib : HasFib p.state

-- a core: its chip's tables, capacities and count of writes, what was published, and its observers
pub record CoreView : Type 0 where
  pub raw : Tables
  pub caps : Caps
  pub writes : ℕ
  pub published : PublishedView
  pub audience : AudienceView

-- what holds of every core: the journal is legal, from a sound opening; its capacities are the chip's; the chip shows the rows of the state; and
-- observers stand where states were published
pub record IsCore (c : CoreView) : Type 0 where
  pub legal : IsLegal (journal_of c.published)
  pub sound : IsSound (plain c.published.base)
  pub caps : c.published.caps ≡ c.caps
  pub view : view_of c.raw ≡ rows (plain c.published.state)
  pub heard : IsHeard (journal_of c.published) c.published.state c.audience
