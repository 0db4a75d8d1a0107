use Rattle.std.proofs.Common.{◌≡◌, length}
use Rattle.run_outcome.proofs.OrderLaws.{into}
use Rattle.told_laws.specs.Told.{by_line}
use Rattle.run_outcome.proofs.order.in_line_order.Given as goal

abbrev pub invariant-loop-line : goal.invariant-loop-line
invariant-loop-line l = into l.left.items l.tree.entries ≡ by_line l.fn.replies

abbrev pub decreases-loop-line : goal.decreases-loop-line
decreases-loop-line l = length l.left.items

abbrev pub invariant-loop-reply : goal.invariant-loop-reply
invariant-loop-reply l = l.ordered ≡ l.yielded
