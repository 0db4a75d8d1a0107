use Rattle.shared_list.proofs.Places.{length_is}
use Rattle.shared_list.proofs.SharedList.len.Goals as goal

pub returns : goal.returns
returns g c = record { length = length_is c.self.inside.nodes.entries c.args.self.now c.self.inside.len c.self.invariant c.self.view_is }
