use Rattle.std.proofs.Common.{◌∙◌, ap}
use Rattle.std.specs.Ordering.{nat_cmp}
use Rattle.keyed.specs.Ranges.{keys_of}
use Rattle.keyed.specs.Sets.{insert}
use Rattle.key_set.proofs.Marks.{keys_put}
use Rattle.key_set.proofs.set.KeySet.with.Goals as goal

pub returns : goal.returns
returns c = ap keys_of c.in_ok-marks.ensures.entries ∙ keys_put c.args.key _ c.self.inside.marks.entries ∙ ap (insert nat_cmp c.args.key) c.self.view_is
