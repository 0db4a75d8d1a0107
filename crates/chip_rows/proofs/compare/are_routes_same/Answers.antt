use Rattle.std.proofs.Common.{◌∙◌}
use Rattle.chip_rows.proofs.SameLaws.{route_key_same, target_same, tested_as}
use Rattle.chip_rows.proofs.compare.are_routes_same.Goals as goal

pub returns : goal.returns
returns c = c.eq.ensures ∙ tested_as _ _ _ _ c.args.a.now c.args.b.now route_key_same target_same
