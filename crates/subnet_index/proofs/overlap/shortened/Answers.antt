use Rattle.subnet_index.proofs.Overlaps.{not_too_long}
use Rattle.subnet_index.proofs.overlap.shortened.Goals as goal

pub unreachable-requires : goal.unreachable-requires
unreachable-requires c = not_too_long c.in-Err.field-0 c.ip.result c.args.len c.args.prefix.now c.in-Err.ensures c.ip.ensures c.requires c.len.ensures.range.0
