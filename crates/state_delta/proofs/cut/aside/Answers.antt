use Rattle.state_delta.proofs.Cutting.{aside_below, aside_from}
use Rattle.state_delta.proofs.cut.aside.Goals as goal

pub returns-then-is_before : goal.returns-then-is_before
returns-then-is_before g c = aside_below c.args.tree c.sound.ensures c.low.ensures c.requires c.is_before.ensures c.if-is_before.true

pub returns-else-is_before : goal.returns-else-is_before
returns-else-is_before g c = aside_from c.args.tree c.sound.ensures c.low.ensures c.requires c.is_before.ensures c.if-is_before.false
