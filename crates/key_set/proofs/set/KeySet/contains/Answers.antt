use Rattle.std.proofs.Common.{◌≡◌, ◌↔◌, ℕ, true, List, subst}
use Rattle.std.specs.List.{Contains}
use Rattle.key_set.proofs.Marks.{is_held}
use Rattle.key_set.proofs.set.KeySet.contains.Goals as goal

pub returns : goal.returns
returns c = subst (λ (ks : List ℕ). (c.is_some.result ≡ true) ↔ Contains ks c.args.key.now) c.self.view_is (is_held c.args.key.now c.self.inside.marks.entries c.get.result c.shape.ensures.ascends c.get.ensures c.is_some.ensures)
