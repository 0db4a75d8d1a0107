use Rattle.std.specs.List.{flat_map}
use Rattle.row_sources.proofs.GatherLaws.{IsGathering}
use Rattle.row_sources.proofs.RowLaws.{entry_group}
use Rattle.row_sources.proofs.group.group_keys.Given as goal

abbrev pub invariant-loop-node : goal.invariant-loop-node
invariant-loop-node l = IsGathering entry_group l.keys.items l.node-iterator (flat_map entry_group l.fn.fibs.entries)
