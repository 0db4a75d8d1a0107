use Rattle.std.proofs.Common.{◌<◌, ap, ◌∙◌, length, Some, arith}
use Rattle.switch_model.specs.declared.record.FibEntry.TheVariants.{Forward}
use Rattle.switch_model.specs.FibLaws.{first-forward}
use Rattle.nexthop_resolve.proofs.FirstLaws.{some-from_test}
use Rattle.nexthop_resolve.proofs.resolver.end_of.Goals as goal

pub returns-then-not-is_empty : goal.returns-then-not-is_empty
returns-then-not-is_empty c =
    let hops = rw c.as_slice.ensures.value at c.in_ok-hops.ensures in
    let some : 0 < c.args.all.now.hosts.len = some-from_test c.args.all.now.hosts.len c.is_empty.result c.is_empty.ensures c.if-not-is_empty.true in
    let long : 0 < length c.args.all.now.hosts.items = omega (arith, some, c.args.all.now.hosts.ok.0) in
    ap (λ h. Some (Forward h)) hops ∙ first-forward c.args.all.now.hosts.items c.args.all.now.cpu c.args.all.now.discard long
