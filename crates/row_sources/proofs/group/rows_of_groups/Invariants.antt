use Rattle.std.proofs.Common.{◌≡◌, ◌++◌, map}
use Rattle.std.specs.Vec.Iter.{into_iter_items}
use Rattle.switch_model.specs.Rows.{live}
use Rattle.switch_state.specs.Plain.{plain}
use Rattle.row_sources.proofs.group.rows_of_groups.Given as goal

abbrev pub invariant-loop-key : goal.invariant-loop-key
invariant-loop-key l = record {
  made : l.list.items ++ map (λ key. (key, map (live (plain l.state)) key)) (into_iter_items l.key-iterator) ≡ map (λ key. (key, map (live (plain l.state)) key)) l.fn.keys.items;
  can : goal.iterator-loop-key.can_next l.key-iterator;
  finite : goal.iterator-loop-key.is_finite l.key-iterator;
}
