use Rattle.std.proofs.Common.{◌∙◌, sym, ap}
use Rattle.keyed.specs.Ranges.{last_of}
use Rattle.keyed.specs.RangeLaws.{last_back}
use Rattle.node_map.proofs.Shapes.{seen_as}
use Rattle.node_map.proofs.tree.Tree.+last.Goals as goal

pub returns-in-Branch : goal.returns-in-Branch
returns-in-Branch g t c =
    let s = seen_as c.self.view_is c.self.invariant c.in-Branch.is in
    sym (last_back c.in-Branch.field-0.value.entries c.in-Branch.right.value.entries (ap (λ v. last_of v.entries) (sym c.deref-in-Branch.ensures) ∙ sym c.last.ensures)) ∙ ap (λ v. last_of v.entries) s.view
