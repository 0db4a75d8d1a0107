use Rattle.std.proofs.Common.{rules, ◌≡◌, ◌∙◌, sym, []}
use Rattle.std.proofs.lemmas.List.{map-id}
use Rattle.std.proofs.lemmas.Map.Iter.{iter_end}
use Rattle.run_outcome.proofs.OrderLaws.{order_ends, order_next, order_starts}
use Rattle.run_outcome.proofs.order.in_line_order.Goals as goal

pub loop-line-init : goal.loop-line-init
loop-line-init c = order_starts c.args.replies c.into_vec-left.result.items c.new-tree.result.entries c.into_vec-left.ensures c.new-tree.ensures.empty

pub loop-line-preserved : goal.loop-line-preserved
loop-line-preserved c = order_next c.args.replies c.loop-line.left.items c.pop.new.self.items c.loop-line.tree.entries c.enter.new.tree.entries c.in-Some.line c.in-Some.reply c.loop-line.invariant c.in-Some.ensures.items c.in_ok-enter.ensures.entered

pub returns : goal.returns
returns c =
    let none : c.loop-line.left.items ≡ [] = search rules in
    let start : c.into_iter-reply-iterator.result ≡ c.loop-line.tree.entries = search rules in
    let ended = iter_end _ c.loop-line.tree.entries c.loop-reply.yielded c.into_iter-reply-iterator.result c.loop-reply.reply-iterator c.next.new.self c.next.result start c.loop-reply.yielded_by c.in-None.is c.next.ensures.steps in
    let all : c.loop-reply.yielded ≡ c.loop-line.tree.entries = sym (map-id c.loop-reply.yielded) ∙ ended.0 in
    record { ordered = c.loop-reply.invariant ∙ all ∙ order_ends c.args.replies c.loop-line.left.items c.loop-line.tree.entries c.loop-line.invariant none }
