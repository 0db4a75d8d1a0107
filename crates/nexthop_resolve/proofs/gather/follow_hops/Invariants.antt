use Rattle.std.proofs.Common.{take, map}
use Rattle.std.specs.List.{Contains}
use Rattle.nexthop_resolve.specs.Gathered.{Grows}
use Rattle.switch_model.specs.Reach.{leads_to}
use Rattle.nexthop_resolve.proofs.gather.follow_hops.Given as goal

abbrev pub invariant-loop-hop : goal.invariant-loop-hop
invariant-loop-hop g l = Grows l.vrf l.initial.all l.all (Contains (map (leads_to (g.R.BestRoutes.rib l.routes) l.vrf) (take l.hop-index l.hops)))
