use Rattle.std.proofs.Common.{ap, ◌∙◌}
use Rattle.net_types.specs.declared.table.RouteKey.{RouteKey}
use Rattle.state_keys.specs.PartKeys.{fib_number}
use Rattle.subnet_index.proofs.Overlaps.{at_found}
use Rattle.subnet_index.proofs.subnets.Subnets.has_other_at.Goals as goal

pub returns : goal.returns
returns c = c.other_at.ensures ∙ at_found c.args.intf c.args.vrf c.args.prefix.now c.fib_key-first.result c.keys-keys.result.now c.args.self.now (c.fib_key-first.ensures.key ∙ ap fib_number c.route_key.ensures) c.keys-keys.ensures.keys c.keys-keys.ensures.numbers c.shape.ensures
