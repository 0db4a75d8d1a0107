use Rattle.state_counts.proofs.CountLaws.{IsFollowing, one}
use Rattle.state_counts.proofs.Weights.{weight}
use Rattle.state_counts.proofs.following.count_on.Given as goal

abbrev pub invariant-loop-change : goal.invariant-loop-change
invariant-loop-change g l = IsFollowing one l.count l.now l.change-iterator (weight one l.old.entries) (weight one l.new.entries)
