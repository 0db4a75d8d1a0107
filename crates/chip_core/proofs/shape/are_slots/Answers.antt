use Rattle.chip_core.proofs.Outcomes.{never, refused}
use Rattle.chip_core.proofs.ImageLaws.{slots-all, slots_from}
use Rattle.chip_core.proofs.shape.are_slots.Goals as goal

pub returns-then-not-ascends : goal.returns-then-not-ascends
returns-then-not-ascends g c = ((λ h. never h), (λ slots. absurd (refused c.ascends.result c.ascends.ensures.1 c.if-not-ascends.true slots.ascends)))

pub returns : goal.returns
returns g c = ((λ h. slots_from c.args.capacity c.args.rows.now (c.ascends.ensures.0 c.if-not-ascends.false) (c.are_below.ensures.0 h)), (λ slots. c.are_below.ensures.1 (slots-all c.args.capacity c.args.rows.now slots)))
