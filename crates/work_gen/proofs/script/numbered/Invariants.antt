use Rattle.std.proofs.Common.{◌≡◌, ◌+◌, ◌++◌, length}
use Rattle.std.specs.Vec.Iter.{into_iter_items}
use Rattle.switch_model.specs.Built.{placed}
use Rattle.work_gen.proofs.script.numbered.Given as goal

abbrev pub invariant-loop-act : goal.invariant-loop-act
invariant-loop-act l = record {
  whole : l.base ++ placed l.line (into_iter_items l.act-iterator) ≡ placed 4 l.fn.acts.items;
  left : l.line + length (into_iter_items l.act-iterator) ≡ 4 + length l.fn.acts.items;
  can : goal.iterator-loop-act.can_next l.act-iterator;
  finite : goal.iterator-loop-act.is_finite l.act-iterator;
}
