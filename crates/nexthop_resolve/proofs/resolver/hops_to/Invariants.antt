use Rattle.std.proofs.Common.{◌≡◌, take, map}
use Rattle.switch_model.specs.Fib.{hop_of_host}
use Rattle.nexthop_resolve.proofs.resolver.hops_to.Given as goal

abbrev pub invariant-loop-host : goal.invariant-loop-host
invariant-loop-host l = l.hops ≡ map hop_of_host (take l.host-index l.hosts)
