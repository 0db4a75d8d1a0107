use Rattle.std.proofs.Common.{[], ◌∷◌, ◌++◌, ap, ◌∙◌}
use Rattle.state_keys.specs.PartKeys.{IsFibNumber, fib_of}
use Rattle.switch_model.specs.declared.record.FibEntry.{FibEntry}
use Rattle.switch_model.specs.Rows.{target_of_entry}
use Rattle.row_sources.proofs.GatherLaws.{read_end, read_more, read_number}
use Rattle.row_sources.proofs.RowLaws.{entry_row, routes_first}
use Rattle.row_sources.proofs.route.rows_of_entries.Goals as goal

pub loop-key-init : goal.loop-key-init
loop-key-init c = routes_first c.new-list.result.items c.into_iter-key-iterator.result c.args.fibs.now.entries c.new-list.ensures.items c.into_iter-key-iterator.ensures.into_iter_gives c.requires

pub add_entry-requires : goal.add_entry-requires
add_entry-requires c = read_number entry_row IsFibNumber _ (c.in-Some.key.now, c.in-Some.node.now) c.loop-key.key-iterator c.next.new.self _ c.in-Some.ensures.steps c.loop-key.invariant

pub loop-key-preserved : goal.loop-key-preserved
loop-key-preserved c = read_more entry_row IsFibNumber _ _ (c.in-Some.key.now, c.in-Some.node.now) c.loop-key.key-iterator c.next.new.self _ c.in-Some.ensures.steps c.loop-key.invariant
    (c.in_ok-add_entry.ensures ∙ ap (λ (v : FibEntry). c.loop-key.list.items ++ (fib_of c.in-Some.key.now, target_of_entry v) ∷ []) c.value.ensures)

pub returns : goal.returns
returns c = read_end entry_row IsFibNumber _ c.loop-key.key-iterator _ c.in-None.ensures.steps.0 c.loop-key.invariant
