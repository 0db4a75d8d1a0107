use Rattle.std.proofs.Common.{ℕ, List, subst}
use Rattle.std.specs.List.Sorted.{IsStrictlySortedBy}
use Rattle.std.specs.Ordering.{nat_cmp}
use Rattle.key_set.proofs.Marks.{keys_ascend}
use Rattle.key_set.proofs.set.KeySet.shape.Goals as goal

pub returns : goal.returns
returns c = subst (λ (ks : List ℕ). IsStrictlySortedBy nat_cmp ks) c.self.view_is (keys_ascend c.self.inside.marks.entries c.shape.ensures.ascends)
