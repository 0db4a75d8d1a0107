use Rattle.std.proofs.Common.{◌≡◌, ◌++◌, map, take}
use Rattle.switch_model.specs.declared.act.Act.TheVariants.{MacSet}
use Rattle.saved_state.proofs.acts.add_macs.Given as goal

abbrev pub invariant-loop-mac : goal.invariant-loop-mac
invariant-loop-mac l = l.acts ≡ l.fn.acts ++ map (λ e. MacSet e.0.vlan e.0.mac e.1.port) (take l.mac-index l.macs)
