use Rattle.std.proofs.Common.{◌≡◌, ◌++◌, take}
use Rattle.std.specs.List.{flat_map}
use Rattle.switch_model.specs.Sound.{addr_acts}
use Rattle.saved_state.proofs.acts.add_all_addrs.Given as goal

abbrev pub invariant-loop-intf : goal.invariant-loop-intf
invariant-loop-intf l = l.acts ≡ l.fn.acts ++ flat_map addr_acts (take l.intf-index l.intfs)
