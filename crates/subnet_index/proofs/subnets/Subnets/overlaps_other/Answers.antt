use Rattle.std.proofs.Common.{sym, ◌∙◌, subst}
use Rattle.net_types.specs.declared.table.RouteKey.{RouteKey}
use Rattle.state_keys.specs.PartKeys.{IsFib}
use Rattle.subnet_index.proofs.Overlaps.{are_subnets, around_found, inside_found}
use Rattle.subnet_index.proofs.subnets.Subnets.overlaps_other.Goals as goal

pub returns-then-has_other_within : goal.returns-then-has_other_within
returns-then-has_other_within c =
    let range : IsFib (record { vrf = c.args.vrf; prefix = c.args.prefix.now }) = subst (λ (k : RouteKey). IsFib k) c.route_key.ensures c.fib_key.ensures.range in
    c.if-has_other_within.true ∙ sym (inside_found c.args.intf c.args.vrf c.args.prefix.now c.args.self.now range.prefix (are_subnets c.keys.result.now c.args.self.now c.keys.ensures.keys c.keys.ensures.numbers) (sym c.has_other_within.ensures ∙ c.if-has_other_within.true))

pub returns-else-has_other_within : goal.returns-else-has_other_within
returns-else-has_other_within c =
    let range : IsFib (record { vrf = c.args.vrf; prefix = c.args.prefix.now }) = subst (λ (k : RouteKey). IsFib k) c.route_key.ensures c.fib_key.ensures.range in
    around_found c.args.intf c.args.vrf c.args.prefix.now c.args.self.now c.has_other_around.result range.prefix range.ip (are_subnets c.keys.result.now c.args.self.now c.keys.ensures.keys c.keys.ensures.numbers) (sym c.has_other_within.ensures ∙ c.if-has_other_within.false) c.has_other_around.ensures
