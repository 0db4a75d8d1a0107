use Rattle.subnet_index.specs.Overlapping.{IsNoneBelow}
use Rattle.subnet_index.proofs.subnets.Subnets.has_other_around.Given as goal

abbrev pub invariant-loop-len : goal.invariant-loop-len
invariant-loop-len l = IsNoneBelow l.intf l.vrf l.prefix l.self l.len
