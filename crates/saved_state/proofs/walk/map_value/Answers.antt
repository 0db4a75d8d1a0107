use Rattle.std.proofs.Common.{map, rules, ap, subst, ◌∙◌}
use Rattle.serde_json.specs.View.{view}
use Rattle.saved_state.proofs.Walked.{number_of_first, pushed, writes_more, writing_begins}
use Rattle.saved_state.proofs.walk.map_value.Goals as goal

pub write-requires : goal.write-requires
write-requires g c = number_of_first g.F.EntryWriter.is_number g.F.EntryWriter.key_of g.F.EntryWriter.json_of g.F.EntryWriter.legal (map view c.loop-key.items.items) (c.in-Some.key.now, c.in-Some.node.now) c.loop-key.key-iterator c.next.new.self c.args.map.now.entries c.in-Some.ensures.steps c.loop-key.invariant

pub loop-key-init : goal.loop-key-init
loop-key-init g c = writing_begins g.F.EntryWriter.is_number g.F.EntryWriter.key_of g.F.EntryWriter.json_of g.F.EntryWriter.legal _ c.into_iter-key-iterator.result c.args.map.now.entries (search rules) (search rules) c.requires

pub loop-key-preserved : goal.loop-key-preserved
loop-key-preserved g c = writes_more g.F.EntryWriter.is_number g.F.EntryWriter.key_of g.F.EntryWriter.json_of g.F.EntryWriter.legal (map view c.loop-key.items.items) _ (c.in-Some.key.now, c.in-Some.node.now) c.loop-key.key-iterator c.next.new.self c.args.map.now.entries c.in-Some.ensures.steps c.loop-key.invariant (pushed c.loop-key.items.items _ c.in_ok-value.value _ (search rules) (c.in_ok-value.ensures.value ∙ ap (λ r. g.F.EntryWriter.json_of (g.F.EntryWriter.key_of c.in-Some.key.now, r)) c.value.ensures)) (subst (λ r. g.F.EntryWriter.legal (g.F.EntryWriter.key_of c.in-Some.key.now, r)) c.value.ensures c.in_ok-value.ensures.legal)
