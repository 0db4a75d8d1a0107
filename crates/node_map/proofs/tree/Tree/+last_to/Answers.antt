use Rattle.std.proofs.Common.{◌∙◌, Some, sym, ap}
use Rattle.std.specs.Ordering.{nat_cmp}
use Rattle.keyed.specs.Ranges.{last_of, up_to}
use Rattle.keyed.specs.RangeLaws.{last_front, last_back}
use Rattle.node_map.proofs.Order.{last_one, last_no_one}
use Rattle.node_map.proofs.Shapes.{seen_as}
use Rattle.node_map.proofs.Places.{before_true, before_false}
use Rattle.node_map.proofs.Trees.{up_to_left, up_to_right}
use Rattle.node_map.proofs.tree.Tree.+last_to.Goals as goal

pub returns-then-is_before-2 : goal.returns-then-is_before-2
returns-then-is_before-2 g t c =
    let s = seen_as c.self.view_is c.self.invariant c.in-Branch.is in
    let key = c.args.key.now in
    c.last_to.ensures ∙ ap (λ v. last_of (up_to nat_cmp key v.entries)) c.deref-then-is_before-2.ensures ∙ ap last_of (sym (up_to_left s.is key (before_true c.is_before-in-Branch.ensures c.if-is_before-2.true))) ∙ ap (λ v. last_of (up_to nat_cmp key v.entries)) s.view

pub returns-in-None : goal.returns-in-None
returns-in-None g t c =
    let s = seen_as c.self.view_is c.self.invariant c.in-Branch.is in
    let key = c.args.key.now in
    c.last.ensures ∙ ap (λ v. last_of v.entries) c.deref-in-None.ensures ∙ sym (last_front c.in-Branch.left.value.entries (up_to nat_cmp key c.in-Branch.right.value.entries) (ap (λ v. last_of (up_to nat_cmp key v.entries)) (sym c.deref-else-is_before-2.ensures) ∙ sym c.in-None.ensures)) ∙ ap last_of (sym (up_to_right s.is key (before_false c.is_before-in-Branch.ensures c.if-is_before-2.false))) ∙ ap (λ v. last_of (up_to nat_cmp key v.entries)) s.view

pub returns-in-Some : goal.returns-in-Some
returns-in-Some g t c =
    let s = seen_as c.self.view_is c.self.invariant c.in-Branch.is in
    let key = c.args.key.now in
    sym (last_back c.in-Branch.left.value.entries (up_to nat_cmp key c.in-Branch.right.value.entries) (ap (λ v. last_of (up_to nat_cmp key v.entries)) (sym c.deref-else-is_before-2.ensures) ∙ sym c.in-Some.ensures)) ∙ ap last_of (sym (up_to_right s.is key (before_false c.is_before-in-Branch.ensures c.if-is_before-2.false))) ∙ ap (λ v. last_of (up_to nat_cmp key v.entries)) s.view

pub returns-then-is_before : goal.returns-then-is_before
returns-then-is_before g t c =
    let s = seen_as c.self.view_is c.self.invariant c.in-Leaf.is in
    let key = c.args.key.now in
    sym (last_no_one key (c.self.inside.mark, c.in-Leaf.node.value) (before_true c.is_before.ensures c.if-is_before.true)) ∙ ap (λ v. last_of (up_to nat_cmp key v.entries)) s.view

pub returns-else-is_before : goal.returns-else-is_before
returns-else-is_before g t c =
    let s = seen_as c.self.view_is c.self.invariant c.in-Leaf.is in
    let key = c.args.key.now in
    ap (λ n. Some (c.self.inside.mark, n)) c.deref.ensures ∙ sym (last_one key (c.self.inside.mark, c.in-Leaf.node.value) (before_false c.is_before.ensures c.if-is_before.false)) ∙ ap (λ v. last_of (up_to nat_cmp key v.entries)) s.view
