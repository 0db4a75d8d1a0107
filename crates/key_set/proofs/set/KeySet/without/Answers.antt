use Rattle.std.proofs.Common.{◌∙◌, ap}
use Rattle.std.specs.Ordering.{nat_cmp}
use Rattle.keyed.specs.Ranges.{keys_of}
use Rattle.keyed.specs.Sets.{delete}
use Rattle.key_set.proofs.Marks.{keys_without}
use Rattle.key_set.proofs.set.KeySet.without.Goals as goal

pub returns : goal.returns
returns c = ap keys_of c.in_ok-marks.ensures.entries ∙ keys_without c.args.key.now c.self.inside.marks.entries ∙ ap (delete nat_cmp c.args.key.now) c.self.view_is
