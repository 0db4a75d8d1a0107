use Rattle.std.proofs.Common.{ap, ◌∙◌, subst}
use Rattle.net_types.specs.declared.table.RouteKey.{RouteKey}
use Rattle.state_keys.specs.PartKeys.{fib_number, IsFib}
use Rattle.subnet_index.proofs.Overlaps.{within_found}
use Rattle.subnet_index.proofs.subnets.Subnets.has_other_within.Goals as goal

pub returns : goal.returns
returns c =
    let range : IsFib (record { vrf = c.args.vrf; prefix = c.args.prefix.now }) = subst (λ (k : RouteKey). IsFib k) c.route_key.ensures c.fib_key-first.ensures.range in
    c.other_within.ensures ∙ within_found c.args.vrf c.args.prefix.now range.prefix range.ip range.vrf c.args.intf c.fib_key-first.result c.keys-keys.result.now c.args.self.now (c.fib_key-first.ensures.key ∙ ap fib_number c.route_key.ensures) c.keys-keys.ensures.keys c.keys-keys.ensures.numbers c.shape.ensures
