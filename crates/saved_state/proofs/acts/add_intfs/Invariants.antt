use Rattle.std.proofs.Common.{◌≡◌, ◌++◌, map, take}
use Rattle.switch_model.specs.declared.act.Act.TheVariants.{IntfAdd}
use Rattle.saved_state.proofs.acts.add_intfs.Given as goal

abbrev pub invariant-loop-intf : goal.invariant-loop-intf
invariant-loop-intf l = l.acts ≡ l.fn.acts ++ map (λ e. IntfAdd e.0 e.1.vlan e.1.vrf e.1.mac) (take l.intf-index l.intfs)
