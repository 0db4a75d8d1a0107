use Rattle.node_map_bench.proofs.work.differing.Goals as goal

pub map_delta-change-items-requires : goal.map_delta-change-items-requires
map_delta-change-items-requires c = (1, c.requires)
