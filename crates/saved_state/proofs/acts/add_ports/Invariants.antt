use Rattle.std.proofs.Common.{◌≡◌, ◌++◌, take}
use Rattle.std.specs.List.{flat_map}
use Rattle.switch_model.specs.Sound.{port_acts}
use Rattle.saved_state.proofs.acts.add_ports.Given as goal

abbrev pub invariant-loop-port : goal.invariant-loop-port
invariant-loop-port l = l.acts ≡ l.fn.acts ++ flat_map port_acts (take l.port-index l.ports)
