use Rattle.std.proofs.Common.{rules, map, List}
use Rattle.std.specs.Vec.Iter.{into_iter_items}
use Rattle.net_types.specs.declared.table.HostKey.{HostKey}
use Rattle.switch_model.specs.Rows.{live}
use Rattle.switch_state.specs.Plain.{plain}
use Rattle.row_sources.proofs.RowLaws.{turned}
use Rattle.row_sources.proofs.group.rows_of_groups.Goals as goal

pub loop-key-preserved : goal.loop-key-preserved
loop-key-preserved c = record {
  made = turned (λ (key : List HostKey). (key, map (live (plain c.args.state.now)) key)) c.loop-key.list.items c.add_group.new.list.items c.in-Some.key (into_iter_items c.loop-key.key-iterator) (into_iter_items c.next.new.self) _ c.in-Some.ensures.steps.0 c.in_ok-add_group.ensures c.loop-key.invariant.made;
  can = search rules;
  finite = search rules;
}
