use Rattle.std.proofs.Common.{rules, sym, ◌∙◌}
use Rattle.saved_state.proofs.Merges.{none_pushed, one_pushed, pushed_to}
use Rattle.saved_state.proofs.neighbors.push_before.Goals as goal

pub loop-row-init : goal.loop-row-init
loop-row-init c = none_pushed _ _ _

pub loop-row-preserved : goal.loop-row-preserved
loop-row-preserved c = one_pushed _ _ c.loop-row.left.now _ _ c.loop-row.rows.items _ c.in-Some.row.now c.in-Some.ensures.cases.0 c.loop-row.invariant (sym c.is_before.ensures ∙ c.if-not-is_before.false) (search rules)

pub returns-then-not-is_before : goal.returns-then-not-is_before
returns-then-not-is_before c = pushed_to _ _ c.loop-row.left.now _ _ _ c.in-Some.row.now c.in-Some.ensures.cases.0 (sym c.is_before.ensures ∙ c.if-not-is_before.true) c.loop-row.invariant
