use Rattle.std.proofs.Common.{◌≡◌, ◌-◌, ◌++◌, map}
use Rattle.std.specs.List.{range_with_len}
use Rattle.work_gen.specs.Base.{vlan_act, vlan_acts}
use Rattle.work_gen.proofs.base.add_vlans.Given as goal

abbrev pub invariant-loop-number : goal.invariant-loop-number
invariant-loop-number l = l.acts.items ++ map vlan_act (range_with_len l.number (9 - l.number)) ≡ l.fn.acts.items ++ vlan_acts
