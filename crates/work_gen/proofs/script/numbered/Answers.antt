use Rattle.std.proofs.Common.{rules, arith, ◌+◌, length, ◌≡◌, ◌∷◌, List}
use Rattle.std.specs.Vec.Iter.{into_iter_items}
use Rattle.switch_model.specs.declared.act.Act.{Act}
use Rattle.switch_model.specs.Built.{placed}
use Rattle.work_gen.proofs.LineLaws.{placed_more, fewer_left, small_line}
use Rattle.work_gen.proofs.script.numbered.Goals as goal

pub overflow_add-line : goal.overflow_add-line
overflow_add-line c =
    omega (arith, small_line (into_iter_items c.loop-act.act-iterator) (into_iter_items c.next.new.self) c.in-Some.act c.loop-act.line (length c.args.acts.items) c.in-Some.ensures.steps.0 c.loop-act.invariant.left c.requires)

pub loop-act-preserved : goal.loop-act-preserved
loop-act-preserved c =
    let before : List Act = into_iter_items c.loop-act.act-iterator in
    let left : List Act = into_iter_items c.next.new.self in
    let next : before ≡ c.in-Some.act ∷ left = c.in-Some.ensures.steps.0 in
    record {
      whole = placed_more c.loop-act.base _ c.loop-act.line c.in-Some.act before left (placed 4 c.args.acts.items) next c.in_ok-push.ensures.ok c.loop-act.invariant.whole;
      left = fewer_left before left c.in-Some.act c.loop-act.line (4 + length c.args.acts.items) next c.loop-act.invariant.left;
      can = search rules;
      finite = search rules;
    }
