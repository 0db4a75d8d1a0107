use Rattle.std.proofs.Common.{◌++◌}
use Rattle.std.specs.List.{flat_map}
use Rattle.row_sources.proofs.GatherLaws.{IsGathering}
use Rattle.row_sources.proofs.RowLaws.{far_hosts}
use Rattle.row_sources.proofs.host.add_forwarded.Given as goal

abbrev pub invariant-loop-node : goal.invariant-loop-node
invariant-loop-node l = IsGathering far_hosts l.keys.items l.node-iterator (l.initial.keys.items ++ flat_map far_hosts l.fn.fibs.entries)
