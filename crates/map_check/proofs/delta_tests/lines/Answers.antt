use Rattle.map_check.proofs.delta_tests.lines.Goals as goal

pub map_delta-change-items-requires : goal.map_delta-change-items-requires
map_delta-change-items-requires c = (c.args.version, c.requires)
