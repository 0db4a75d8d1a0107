-- What is so of a caller's pass between two calls.
use Rattle.std.specs.Prelude.{◌≡◌, Some, length}
use Rattle.keyed.specs.Prefix.{IsPrefix}
use Rattle.switch_model.specs.declared.act.Submission.{Submission}
use Rattle.switch_model.specs.declared.act.Update.{Update}
use Rattle.switch_model.specs.declared.journal.Round.{Round}
use Rattle.turn_book.specs.Closing.{HoldsNothing}
use Rattle.turn_book.specs.Passes.{IsConsistent, Pass}
use Rattle.shared_laws.specs.Ground.{GroundView, IsSoFar}

-- what contracts see of a pass
abbrev pub Seen : Type 0
Seen = Pass GroundView Submission Round

-- the lists of the pass agree
abbrev pub Agrees : Seen → Type 0
Agrees p = IsConsistent (λ s. s.caller) (λ s. s.seq) p

-- it holds neither value, its lists agree, and what it has seen are submissions within the limit and rounds that may come of them
pub record AtRest (g : GroundView) (p : Seen) : Type 0 where
  pub free : HoldsNothing p
  pub lists : Agrees p
  pub so_far : IsSoFar g p.seen p.jseen

-- this is so over what its agent's journal rests on
pub record IsPass (p : Seen) : Type 0 where
  pub basis : GroundView
  pub opening : p.opening ≡ Some basis
  pub rest : AtRest basis p

-- the lists that the pass has seen have grown
pub record Grew (old new : Seen) : Type 0 where
  pub seen : IsPrefix old.seen new.seen
  pub jseen : IsPrefix old.jseen new.jseen
  pub rounds : IsPrefix old.rounds new.rounds

-- the update as the caller's next submission
abbrev pub next_of : Seen → Update → Submission
next_of p update = record { caller = p.number; seq = length p.mine; update = update }
