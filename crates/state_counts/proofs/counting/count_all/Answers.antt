use Rattle.std.proofs.Common.{length, ap, rules}
use Rattle.state_counts.proofs.CountLaws.{counting_begins, counting_ends, counts_more, first_counts}
use Rattle.state_counts.proofs.counting.count_all.Goals as goal

pub loop-entry-init : goal.loop-entry-init
loop-entry-init g c = counting_begins _ _ _ (search rules) (search rules)

pub loop-entry-preserved : goal.loop-entry-preserved
loop-entry-preserved g c = counts_more c.loop-entry.count _ (length c.loop-entry._entry-iterator) (length c.next.new.self) _ 1 (first_counts _ c.loop-entry._entry-iterator c.next.new.self c.in-Some.ensures.steps) (search rules) c.loop-entry.invariant

pub returns : goal.returns
returns g c = counting_ends c.loop-entry.count (length c.loop-entry._entry-iterator) _ (ap length c.in-None.ensures.steps.0) c.loop-entry.invariant
