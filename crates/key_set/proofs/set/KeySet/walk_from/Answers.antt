use Rattle.std.proofs.Common.{◌∙◌, ap}
use Rattle.std.specs.Ordering.{nat_cmp}
use Rattle.keyed.specs.Ranges.{keys_of, keys_onward}
use Rattle.keyed.specs.RangeLaws.{keys_of-onward}
use Rattle.key_set.proofs.set.KeySet.walk_from.Goals as goal

pub returns : goal.returns
returns c = c.of.ensures ∙ ap keys_of c.walk_from.ensures ∙ keys_of-onward nat_cmp c.args.key.now c.self.inside.marks.entries ∙ ap (keys_onward nat_cmp c.args.key.now) c.self.view_is
