use Rattle.std.proofs.Common.{arith}
use Rattle.shared_list.proofs.Places.{length_is, pushed_places, pushed_values}
use Rattle.shared_list.proofs.SharedList.with_last.Goals as goal

pub overflow_add-result : goal.overflow_add-result
overflow_add-result g c = omega (arith, length_is c.self.inside.nodes.entries c.args.self.now c.self.inside.len c.self.invariant c.self.view_is, c.requires.room)

pub invariant_of-result : goal.invariant_of-result
invariant_of-result g c = pushed_places c.self.inside.nodes.entries c.in_ok-nodes.nodes.entries c.self.inside.len c.key_of.result c.args.forge.now.version c.args.item c.self.invariant c.key_of.ensures c.in_ok-nodes.ensures.entries

pub returns : goal.returns
returns g c = record { list = pushed_values c.self.inside.nodes.entries c.in_ok-nodes.nodes.entries c.args.self.now c.self.inside.len c.key_of.result c.args.forge.now.version c.args.item c.self.invariant c.self.view_is c.key_of.ensures c.in_ok-nodes.ensures.entries }
