use Rattle.std.proofs.Common.{◌==◌, ◌&&◌, option_copied}
use Rattle.switch_model.specs.Addresses.{same_addr}
use Rattle.plain_looker.proofs.PlainLaws.{nearest_more}
use Rattle.plain_looker.proofs.looker.PlainLooker.nearest.Goals as goal

pub loop-entry-preserved : goal.loop-entry-preserved
loop-entry-preserved c = nearest_more (λ e. (e.0.vrf == c.args.vrf) && same_addr c.args.prefix.now e.0.prefix) c.entries-entry-items.result.now c.loop-entry.entry-index c.entry-item.result (option_copied c.loop-entry.nearest) (option_copied c.nearer_of-nearest.result) c.loop-entry-test.true c.entry-item.is c.loop-entry.invariant c.nearer_of-nearest.ensures
