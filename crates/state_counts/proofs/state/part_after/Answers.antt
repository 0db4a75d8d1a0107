use Rattle.std.proofs.Common.{length}
use Rattle.state_counts.proofs.CountLaws.{kept_alone}
use Rattle.state_counts.proofs.state.part_after.Goals as goal

pub returns-in-Some : goal.returns-in-Some
returns-in-Some g c = kept_alone c.args.before (length c.args.old.now.entries) c.in-Some.count (length c.args.new.now.entries) c.in-Some.ensures

pub returns-in-None : goal.returns-in-None
returns-in-None g c = λ _. c.count_all.ensures
