use Rattle.std.proofs.Common.{ap, ◌∙◌}
use Rattle.keyed.specs.Sets.{set_of}
use Rattle.net_types.specs.KeyOrder.{hop_cmp}
use Rattle.switch_model.specs.FibLaws.{first-hops}
use Rattle.nexthop_resolve.proofs.resolver.first_hops.Goals as goal

pub returns : goal.returns
returns c =
    c.in_ok-set.ensures.set ∙ ap (set_of hop_cmp) c.in_ok-first.ensures
    ∙ first-hops 64 c.args.hosts.now c.as_slice.result.now (c.as_slice.ensures.value ∙ c.in_ok-all.ensures.set ∙ ap (set_of hop_cmp) c.in_ok-hops.ensures)
