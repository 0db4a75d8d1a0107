-- What contracts see of the desk and of the chip side, and of what a reader is given.
use Rattle.std.specs.Prelude.{◌≡◌, ℕ, ◌==◌, Bool, List, ◌++◌, length, map, if◌then◌else◌}
use Rattle.chip_core.specs.Chip.{IsChip, view_of}
use Rattle.core_laws.specs.Published.{CoreView, IsPublished, PublishedView, journal_of}
use Rattle.net_types.specs.declared.table.Tables.{Tables}
use Rattle.observers.specs.Watch.{Watch}
use Rattle.switch_model.specs.declared.act.Submission.{Submission}
use Rattle.switch_model.specs.declared.journal.Round.{Round}
use Rattle.switch_model.specs.Journal.{fold, strip, with_round}
use Rattle.switch_model.specs.MayComeOf.{SettlesNext}
use Rattle.switch_model.specs.Rows.{rows}
use Rattle.shared_laws.specs.Ground.{DeskView, GroundView, SideView, journal_at}

-- which observers are sure
abbrev pub sure_of : List Watch → List Bool
sure_of watches = map (λ w. w.sure) watches

-- the same as numbers, and back
abbrev pub marks_of : List Watch → List ℕ
marks_of watches = map (λ w. if w.sure then 1 else 0) watches

abbrev pub marked : List ℕ → List Bool
marked marks = map (λ n. n == 1) marks

-- what a journal rests on that was published so
abbrev pub ground_of : PublishedView → ℕ → List Bool → GroundView
ground_of p limit sure = record { opening = (journal_of p).opening; limit = limit; sure = sure }

-- the desk with what is published and what waits
abbrev pub desk_of : PublishedView → List Submission → ℕ → List Bool → DeskView
desk_of p waiting limit sure = record { basis = ground_of p limit sure; sent = strip (journal_of p) ++ waiting; rounds = p.rounds }

-- the chip side with a core and a run
abbrev pub side_of : CoreView → List Submission → ℕ → SideView
side_of c run limit = record { basis = ground_of c.published limit (sure_of c.audience.watches); run = run; rounds = c.published.rounds }

-- what was published after these rounds: the state is the one that the journal gives, with its FIB
pub record IsReadOf (g : GroundView) (rounds : List Round) (p : PublishedView) : Type 0 where
  pub journal : journal_of p ≡ journal_at g rounds
  pub state : IsPublished p

-- the chip's tables keep a chip's rules, and show the rows of the state that these rounds give
pub record AreTablesOf (g : GroundView) (rounds : List Round) (tables : Tables) : Type 0 where
  pub chip : IsChip g.opening.caps tables
  pub view : view_of tables ≡ rows (fold (journal_at g rounds))

-- what is published after a round of k entries that settles what waits at the desk
pub record IsNextPublished (d : DeskView) (p : PublishedView) (k : ℕ) : Type 0 where
  pub round : Round
  pub next : SettlesNext d.sent (journal_at d.basis d.rounds) round
  pub journal : journal_of p ≡ with_round (journal_at d.basis d.rounds) round
  pub size : length round.entries ≡ k
