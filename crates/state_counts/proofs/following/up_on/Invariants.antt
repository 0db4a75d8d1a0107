use Rattle.state_counts.proofs.CountLaws.{IsFollowing, up_one}
use Rattle.state_counts.proofs.Weights.{weight}
use Rattle.state_counts.proofs.following.up_on.Given as goal

abbrev pub invariant-loop-change : goal.invariant-loop-change
invariant-loop-change l = IsFollowing up_one l.count l.now l.change-iterator (weight up_one l.old.entries) (weight up_one l.new.entries)
