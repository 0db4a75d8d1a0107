use Rattle.std.proofs.Common.{◌≡◌, ◌++◌, map}
use Rattle.switch_model.specs.declared.act.Act.TheVariants.{VlanAdd}
use Rattle.saved_state.proofs.acts.add_vlans.Given as goal

abbrev pub invariant-loop-vlan : goal.invariant-loop-vlan
invariant-loop-vlan l = l.acts ≡ l.fn.acts ++ map (λ e. VlanAdd e.0 e.1.name) l.yielded
