use Rattle.std.proofs.Common.{◌≡◌, take}
use Rattle.keyed.specs.Least.{least_of}
use Rattle.plain_looker.specs.Scan.{subnet_keys}
use Rattle.plain_looker.proofs.scan.least_subnet.Given as goal

abbrev pub invariant-loop-addr : goal.invariant-loop-addr
invariant-loop-addr g l = l.least ≡ least_of g.W.Wanted.cmp (g.W.Wanted.test l.wanted) (subnet_keys l.vrf (take l.addr-index l.addr-items))
