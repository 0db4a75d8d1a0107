use Rattle.std.proofs.Common.{ℕ, All, sym, subst}
use Rattle.std.proofs.lemmas.List.Elements.{All-head, All-tail}
use Rattle.node_core.specs.Node.{NodeView}
use Rattle.node_map.specs.TreeNode.{Entries}
use Rattle.state_keys.specs.PartKeys.{IsFibNumber}
use Rattle.switch_model.specs.declared.record.FibEntry.{FibEntry}
use Rattle.fib_check.proofs.print.print_entries.Goals as goal

pub loop-number-init : goal.loop-number-init
loop-number-init c = subst (λ (es : Entries FibEntry). All (λ e. IsFibNumber e.0) es) (sym c.into_iter-number-iterator.ensures.into_iter_gives) c.requires

pub print_line-requires : goal.print_line-requires
print_line-requires c = All-head (λ (x : ℕ × NodeView FibEntry). IsFibNumber x.0) (c.in-Some.number.now, c.in-Some.node.now) c.next.new.self (subst (λ (es : Entries FibEntry). All (λ x. IsFibNumber x.0) es) c.in-Some.ensures.steps c.loop-number.invariant)

pub loop-number-preserved : goal.loop-number-preserved
loop-number-preserved c = All-tail (λ (x : ℕ × NodeView FibEntry). IsFibNumber x.0) (c.in-Some.number.now, c.in-Some.node.now) c.next.new.self (subst (λ (es : Entries FibEntry). All (λ x. IsFibNumber x.0) es) c.in-Some.ensures.steps c.loop-number.invariant)
