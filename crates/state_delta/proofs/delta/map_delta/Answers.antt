use Rattle.std.proofs.Common.{◌∙◌, sym, ap, subst}
use Rattle.std.specs.Ordering.{nat_cmp}
use Rattle.keyed.specs.Keyed.{at}
use Rattle.state_delta.specs.Delta.{IsDelta}
use Rattle.state_delta.proofs.Changes.{roots_ready, roots_delta, unlisted}
use Rattle.state_delta.proofs.Listing.{delta_is}
use Rattle.state_delta.proofs.delta.map_delta.Goals as goal

pub invariant_of-result : goal.invariant_of-result
invariant_of-result g c = roots_ready c.args.old.now c.args.new.now c.root.result c.root-2.result c.root.ensures c.root-2.ensures c.shape.ensures.ascends c.shape-2.ensures.ascends c.shape.ensures.single c.requires

pub returns-clause-lists : goal.returns-clause-lists
returns-clause-lists g c =
    subst (IsDelta c.args.old.now.entries c.args.new.now.entries) (sym (roots_delta c.args.old.now c.args.new.now c.root.result c.root-2.result c.root.ensures c.root-2.ensures)) (delta_is c.args.old.now.entries c.args.new.now.entries c.shape.ensures.ascends c.shape-2.ensures.ascends)

pub returns-clause-unlisted : goal.returns-clause-unlisted
returns-clause-unlisted g c = λ key none.
    let same = roots_delta c.args.old.now c.args.new.now c.root.result c.root-2.result c.root.ensures c.root-2.ensures in
    let is = delta_is c.args.old.now.entries c.args.new.now.entries c.shape.ensures.ascends c.shape-2.ensures.ascends in
    unlisted c.args.old.now c.args.new.now c.shape.ensures.leaves c.shape-2.ensures.leaves c.shape.ensures.single c.requires key (sym (is.each key) ∙ ap (at nat_cmp key) (sym same) ∙ none)
