use Rattle.state_counts.specs.Counted.{ports_up}
use Rattle.state_counts.proofs.CountLaws.{kept_alone}
use Rattle.state_counts.proofs.state.up_after.Goals as goal

pub returns-in-Some : goal.returns-in-Some
returns-in-Some c = kept_alone c.args.before (ports_up c.args.old.now.entries) c.in-Some.count (ports_up c.args.new.now.entries) c.in-Some.ensures

pub returns-in-None : goal.returns-in-None
returns-in-None c = λ _. c.count_up.ensures
