use Rattle.std.proofs.Common.{map, ◌++◌}
use Rattle.state_keys.specs.PartKeys.{IsNdpNumber, ndp_of}
use Rattle.switch_model.specs.Rows.{host_of_neighbor}
use Rattle.row_sources.proofs.GatherLaws.{IsReading}
use Rattle.row_sources.proofs.RowLaws.{near_host}
use Rattle.row_sources.proofs.host.add_ndps.Given as goal

abbrev pub invariant-loop-key : goal.invariant-loop-key
invariant-loop-key l = IsReading IsNdpNumber (near_host ndp_of) l.keys.items l.key-iterator (l.initial.keys.items ++ map (λ e. host_of_neighbor (ndp_of e.0)) l.fn.ndps.entries)
