use Rattle.std.proofs.Common.{◌∙◌}
use Rattle.nexthop_resolve.proofs.FirstLaws.{take_least}
use Rattle.nexthop_resolve.proofs.resolver.first_of.Goals as goal

pub returns : goal.returns
returns c = c.from_vec.ensures ∙ c.in_ok-first.ensures.items ∙ take_least 64 c.min-count.result c.args.hops.now c.min-count.ensures
