-- What the end of an agent gives.
use Rattle.std.specs.Prelude.{◌≡◌, ◌≤◌, ℕ, List, [], length, All, EachIndex}
use Rattle.keyed.specs.Prefix.{IsPrefix}
use Rattle.switch_model.specs.declared.act.Submission.{Submission}
use Rattle.switch_model.specs.Journal.{Journal, own}
use Rattle.switch_model.specs.MayComeOf.{MayComeOf}
use Rattle.turn_book.specs.Closing.{IsCountedOnce}
use Rattle.turn_book.specs.Lists.{AreNumbered}
use Rattle.turn_book.specs.Passes.{Book}
use Rattle.shared_laws.specs.Callers.{Seen}
use Rattle.shared_laws.specs.Ground.{GroundView}

-- all submissions and the journal, when the agent of these passes ends: every pass has seen a beginning of both and has its own submissions, there
-- are no others, and exactly one pass counted each round
pub record Closes (b : Book GroundView) (passes : List Seen) (sent : List Submission) (j : Journal) : Type 0 where
  pub opening : j.opening ≡ b.opening.opening
  pub may_come : MayComeOf sent j
  pub few : length sent ≤ b.opening.limit
  pub seen : All (λ p. IsPrefix p.seen sent) passes
  pub jseen : All (λ p. IsPrefix p.jseen j.rounds) passes
  pub mine : All (λ p. p.mine ≡ own p.number sent) passes
  pub numbered : (i : ℕ) → AreNumbered (λ s. s.seq) (own i sent)
  pub no_others : (i : ℕ) → b.callers ≤ i → own i sent ≡ []
  pub counted_once : EachIndex j.rounds (λ n. IsCountedOnce passes n)
