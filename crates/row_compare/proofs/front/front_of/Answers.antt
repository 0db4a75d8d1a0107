use Rattle.row_compare.proofs.FrontLaws.{front_is}
use Rattle.row_compare.proofs.front.front_of.Goals as goal

pub returns : goal.returns
returns g c = front_is c.front.result c.args.rows.now.items c.front.ensures.item.3
