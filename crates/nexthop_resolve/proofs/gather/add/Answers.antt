use Rattle.std.proofs.Common.{ap, refl, sym}
use Rattle.nexthop_resolve.specs.Gathered.{lead_of}
use Rattle.nexthop_resolve.proofs.GatherLaws.{grows_as, grows_host}
use Rattle.nexthop_resolve.proofs.gather.add.Goals as goal

pub returns-in_ok-push-in-Direct : goal.returns-in_ok-push-in-Direct
returns-in_ok-push-in-Direct c = grows_host c.args.vrf c.args.all.now _ c.in-Direct.host refl refl c.in_ok-push-in-Direct.ensures.items refl refl (lead_of c.args.lead) (ap lead_of c.in-Direct.is)

pub returns-in_ok-visit-in-Onward : goal.returns-in_ok-visit-in-Onward
returns-in_ok-visit-in-Onward c = grows_as c.args.vrf c.args.all.now _ _ (lead_of c.args.lead) c.in_ok-visit-in-Onward.ensures (sym (ap lead_of c.in-Onward.is))
