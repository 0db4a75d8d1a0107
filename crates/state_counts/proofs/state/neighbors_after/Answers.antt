use Rattle.std.proofs.Common.{◌+◌, length, ap, ◌∙◌}
use Rattle.node_map.specs.Map.{MapView}
use Rattle.switch_model.specs.declared.record.NeighborRec.{NeighborRec}
use Rattle.switch_model.specs.Totals.{counted}
use Rattle.state_counts.proofs.CountLaws.{kept_alone}
use Rattle.state_counts.proofs.state.neighbors_after.Goals as goal

pub returns-in-Some : goal.returns-in-Some
returns-in-Some c = kept_alone c.args.before (length c.args.old.now.arps.entries + length c.args.old.now.ndps.entries) c.in-Some.count (length c.args.new.now.arps.entries + length c.args.new.now.ndps.entries) c.in-Some.ensures

pub returns-in-None : goal.returns-in-None
returns-in-None c = λ _. c.count_both.ensures ∙ ap (λ (m : MapView NeighborRec). counted (length m.entries + length c.ndps.result.now.entries)) c.arps.ensures.map ∙ ap (λ (m : MapView NeighborRec). counted (length c.args.new.now.arps.entries + length m.entries)) c.ndps.ensures.map
