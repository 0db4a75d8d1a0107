use Rattle.std.proofs.Common.{◌∙◌}
use Rattle.switch_model.proofs.KeyLaws.{rib_same}
use Rattle.switch_model.proofs.key.compare_rib_keys.Goals as goal

pub returns : goal.returns
returns c = c.cmp.ensures ∙ rib_same c.args.a.now c.args.b.now
