use Rattle.std.proofs.Common.{ap, None, Some, ◌∙◌}
use Rattle.shared_list.proofs.Places.{found}
use Rattle.shared_list.proofs.SharedList.get.Goals as goal

pub returns-in-None : goal.returns-in-None
returns-in-None g c = record { item = found c.self.inside.nodes.entries c.args.self.now c.self.inside.len c.key_of.result c.args.place None c.self.invariant c.self.view_is c.key_of.ensures c.in-None.ensures }

pub returns-in-Some : goal.returns-in-Some
returns-in-Some g c = record { item = ap Some c.value.ensures ∙ found c.self.inside.nodes.entries c.args.self.now c.self.inside.len c.key_of.result c.args.place (Some c.in-Some.node.now) c.self.invariant c.self.view_is c.key_of.ensures c.in-Some.ensures }
