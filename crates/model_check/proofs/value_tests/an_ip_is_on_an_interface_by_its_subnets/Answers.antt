use Rattle.std.specs.List.Sorted.{IsStrictlySortedBy}
use Rattle.model_check.proofs.value_tests.an_ip_is_on_an_interface_by_its_subnets.Goals as goal

pub push-requires : goal.push-requires
unfolding IsStrictlySortedBy
push-requires g c = rw c.new-addrs.ensures (tt, tt)
