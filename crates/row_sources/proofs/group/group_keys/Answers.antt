use Rattle.std.proofs.Common.{[], ◌++◌, refl, ap, ◌∙◌}
use Rattle.switch_model.specs.declared.record.FibEntry.{FibEntry}
use Rattle.switch_model.specs.Rows.{forward_hosts, group_of_hosts}
use Rattle.row_sources.proofs.GatherLaws.{gather_end, gather_first, gather_more}
use Rattle.row_sources.proofs.RowLaws.{entry_group}
use Rattle.row_sources.proofs.group.group_keys.Goals as goal

pub loop-node-init : goal.loop-node-init
loop-node-init c = gather_first entry_group [] _ c.into_iter-node-iterator.result c.args.fibs.now.entries _ c.new-keys.ensures.items c.into_iter-node-iterator.ensures.into_iter_gives refl

pub loop-node-preserved : goal.loop-node-preserved
loop-node-preserved c = gather_more entry_group _ _ (c.in-Some.field-0-0.now, c.in-Some.node.now) c.loop-node.node-iterator c.next.new.self _ c.in-Some.ensures.steps c.loop-node.invariant
    (c.in_ok-add_key.ensures ∙ ap (λ (v : FibEntry). c.loop-node.keys.items ++ group_of_hosts (forward_hosts v)) c.value.ensures)

pub returns : goal.returns
returns c = gather_end entry_group _ c.loop-node.node-iterator _ c.in-None.ensures.steps.0 c.loop-node.invariant
