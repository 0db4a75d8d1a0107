use Rattle.std.proofs.Common.{ℕ, ◌==◌, true, ◌∙◌, rules, tests}
use Rattle.std.specs.Borrow.{Bor}
use Rattle.std.proofs.lemmas.Iterator.Consumers.{YieldsList-from_first}
use Rattle.std.proofs.lemmas.Iterator.Search.{YieldsList-from_take_while, any_from_yields_List}
use Rattle.node_core.specs.Node.{NodeView}
use Rattle.keyed.specs.Ranges.{onward}
use Rattle.std.specs.Ordering.{nat_cmp}
use Rattle.switch_model.specs.declared.record.MacRec.{MacRec}
use Rattle.state_keys.specs.PartKeys.{station_of}
use Rattle.state_scan.proofs.scan.some_station_from.Goals as goal

pub returns : goal.returns
returns c = any_from_yields_List (λ (e : ℕ × NodeView MacRec). true) _ _ _ c.any.ensures.ran
    (YieldsList-from_take_while _ (λ (e : ℕ × NodeView MacRec). (station_of e.0).vlan == c.args.vlan) (YieldsList-from_first (λ (item : Bor ℕ × Bor (NodeView MacRec)). (item.0.now, item.1.now)) (λ left. left) (onward nat_cmp c.args.first.now c.args.macs.now.entries) (c.take_while.ensures.source ∙ c.walk_from.ensures)) c.take_while.ensures.closure c.take_while.ensures.done (λ x b q k. search (rules, tests)))
    (λ x b q k. search (rules, tests))
