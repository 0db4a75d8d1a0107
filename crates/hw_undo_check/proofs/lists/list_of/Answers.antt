use Rattle.std.proofs.Common.{rules}
use Rattle.hw_undo_check.proofs.Fronts.{front-next, whole-next}
use Rattle.hw_undo_check.proofs.lists.list_of.Goals as goal

pub push-requires : goal.push-requires
push-requires g c = front-next _ c.loop-change.list _ _ _ c.in-Some.change c.loop-change.invariant.whole c.in-Some.ensures.steps.0 c.requires

pub loop-change-preserved : goal.loop-change-preserved
loop-change-preserved g c = record {
  whole = whole-next c.loop-change.list _ _ _ _ c.in-Some.change c.loop-change.invariant.whole c.in-Some.ensures.steps.0 c.in_ok-push.ensures.ok;
  can = search rules;
  finite = search rules;
}
