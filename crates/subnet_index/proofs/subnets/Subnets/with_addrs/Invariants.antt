use Rattle.std.proofs.Common.{◌≡◌, drop}
use Rattle.std.specs.Option.{option_copied}
use Rattle.subnet_index.specs.SubnetList.{add_addrs, has_addr}
use Rattle.subnet_index.proofs.subnets.Subnets.with_addrs.Given as goal

abbrev pub invariant-loop-addr : goal.invariant-loop-addr
invariant-loop-addr l = add_addrs l.vrf l.intf (has_addr (option_copied l.old) l.vrf) (drop l.addr-index l.addrs) l.all ≡ add_addrs l.vrf l.intf (has_addr (option_copied l.old) l.vrf) l.addrs l.self
