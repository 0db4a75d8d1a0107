use Rattle.std.proofs.Common.{◌++◌, refl, ap, ◌∙◌}
use Rattle.switch_model.specs.declared.record.FibEntry.{FibEntry}
use Rattle.switch_model.specs.Rows.{forward_hosts}
use Rattle.row_sources.proofs.GatherLaws.{gather_end, gather_first, gather_more}
use Rattle.row_sources.proofs.RowLaws.{far_hosts}
use Rattle.row_sources.proofs.host.add_forwarded.Goals as goal

pub loop-node-init : goal.loop-node-init
loop-node-init c = gather_first far_hosts c.args.keys.now.items _ c.into_iter-node-iterator.result c.args.fibs.now.entries _ refl c.into_iter-node-iterator.ensures.into_iter_gives refl

pub loop-node-preserved : goal.loop-node-preserved
loop-node-preserved c = gather_more far_hosts _ _ (c.in-Some.field-0-0.now, c.in-Some.node.now) c.loop-node.node-iterator c.next.new.self _ c.in-Some.ensures.steps c.loop-node.invariant
    (c.in_ok-add_hosts.ensures ∙ ap (λ (v : FibEntry). c.loop-node.keys.items ++ forward_hosts v) c.value.ensures)

pub returns : goal.returns
returns c = gather_end far_hosts _ c.loop-node.node-iterator _ c.in-None.ensures.steps.0 c.loop-node.invariant
