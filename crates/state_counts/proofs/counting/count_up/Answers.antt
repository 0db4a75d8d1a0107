use Rattle.std.proofs.Common.{ap, rules, ◌+◌, ◌∙◌}
use Rattle.switch_model.specs.declared.record.PortRec.{PortRec}
use Rattle.switch_model.specs.Totals.{counted}
use Rattle.state_counts.specs.Counted.{ports_up}
use Rattle.state_counts.proofs.CountLaws.{counting_begins, counting_ends, counts_more, up_one, ups_first}
use Rattle.state_counts.proofs.counting.count_up.Goals as goal

pub loop-node-init : goal.loop-node-init
loop-node-init c = counting_begins _ _ _ (search rules) (search rules)

pub loop-node-preserved : goal.loop-node-preserved
loop-node-preserved c = counts_more c.loop-node.count c.count_one-count.result (ports_up c.loop-node.node-iterator) (ports_up c.next.new.self) _ (up_one c.in-Some.node.now.value)
    (ap ports_up c.in-Some.ensures.steps ∙ ups_first (c.in-Some.field-0-0.now, c.in-Some.node.now) c.next.new.self)
    (c.count_one-count.ensures ∙ ap (λ (p : PortRec). counted (c.loop-node.count + up_one p)) c.value.ensures)
    c.loop-node.invariant

pub returns : goal.returns
returns c = counting_ends c.loop-node.count (ports_up c.loop-node.node-iterator) _ (ap ports_up c.in-None.ensures.steps.0) c.loop-node.invariant
