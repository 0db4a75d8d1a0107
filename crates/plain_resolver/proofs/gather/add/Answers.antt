use Rattle.std.proofs.Common.{ap, refl}
use Rattle.plain_resolver.specs.Gathered.{lead_of}
use Rattle.plain_resolver.proofs.GatherLaws.{grows_route, grows_met, there, not_there}
use Rattle.plain_resolver.proofs.gather.add.Goals as goal

pub returns-in_ok-push-in-Onward : goal.returns-in_ok-push-in-Onward
returns-in_ok-push-in-Onward c = grows_route c.args.all.now _ c.in-Onward.prefix c.in_ok-push-in-Onward.ensures.items refl refl refl (not_there c.args.all.now.seen.items c.as_slice.result.now c.in-Onward.prefix c.has.result c.as_slice.ensures.value c.has.ensures c.if-not-has.true) (lead_of c.args.lead) (ap lead_of c.in-Onward.is)

pub returns-else-not-has : goal.returns-else-not-has
returns-else-not-has c = grows_met c.args.all.now c.in-Onward.prefix (lead_of c.args.lead) (ap lead_of c.in-Onward.is) (there c.args.all.now.seen.items c.as_slice.result.now c.in-Onward.prefix c.has.result c.as_slice.ensures.value c.has.ensures c.if-not-has.false)
