use Rattle.std.proofs.Common.{◌≡◌, drop}
use Rattle.std.specs.Option.{option_copied}
use Rattle.subnet_index.specs.SubnetList.{cut_addrs, keeps_subnet}
use Rattle.subnet_index.proofs.subnets.Subnets.without_addrs.Given as goal

abbrev pub invariant-loop-addr : goal.invariant-loop-addr
invariant-loop-addr l = cut_addrs l.vrf l.intf (keeps_subnet (option_copied l.new) l.vrf) (drop l.addr-index l.addrs) l.all ≡ cut_addrs l.vrf l.intf (keeps_subnet (option_copied l.new) l.vrf) l.addrs l.self
