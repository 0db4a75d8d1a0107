use Rattle.std.proofs.Common.{◌≡◌, ◌++◌, map, take}
use Rattle.switch_model.specs.declared.act.Act.TheVariants.{AddrAdd}
use Rattle.saved_state.proofs.acts.add_addrs.Given as goal

abbrev pub invariant-loop-addr : goal.invariant-loop-addr
invariant-loop-addr l = l.acts ≡ l.fn.acts ++ map (AddrAdd l.intf) (take l.addr-index l.addrs)
