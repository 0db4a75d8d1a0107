use Rattle.std.proofs.Common.{◌≡◌, ◌-◌, ◌++◌}
use Rattle.std.specs.List.{range_with_len, flat_map}
use Rattle.work_gen.specs.Base.{intf_acts, all_intf_acts}
use Rattle.work_gen.proofs.base.add_intfs.Given as goal

abbrev pub invariant-loop-number : goal.invariant-loop-number
invariant-loop-number l = l.acts.items ++ flat_map intf_acts (range_with_len l.number (9 - l.number)) ≡ l.fn.acts.items ++ all_intf_acts
