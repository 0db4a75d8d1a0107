use Rattle.std.proofs.Common.{ℕ, ◌==◌, not, ◌∙◌, rules, tests}
use Rattle.std.specs.Borrow.{Bor}
use Rattle.std.proofs.lemmas.Iterator.Consumers.{YieldsList-from_first}
use Rattle.std.proofs.lemmas.Iterator.Search.{YieldsList-from_take_while, any_from_yields_List}
use Rattle.std.specs.Option.{option_copied}
use Rattle.keyed.specs.Sets.{delete}
use Rattle.node_core.specs.Node.{NodeView}
use Rattle.keyed.specs.Ranges.{onward}
use Rattle.std.specs.Ordering.{nat_cmp}
use Rattle.switch_model.specs.declared.record.NeighborRec.{NeighborRec}
use Rattle.switch_model.specs.Addresses.{addr_cmp, is_on}
use Rattle.switch_model.specs.Facts.{addrs_of}
use Rattle.state_keys.specs.PartKeys.{intf_of, ndp_of}
use Rattle.state_scan.proofs.scan.some_ndp_strays.Goals as goal

pub returns : goal.returns
returns c = any_from_yields_List (λ (e : ℕ × NodeView NeighborRec). not (is_on (delete addr_cmp c.args.addr.now (addrs_of (option_copied c.args.own))) (ndp_of e.0).ip)) _ _ _ c.any.ensures.ran
    (YieldsList-from_take_while _ (λ (e : ℕ × NodeView NeighborRec). intf_of e.0 == c.args.intf) (YieldsList-from_first (λ (item : Bor ℕ × Bor (NodeView NeighborRec)). (item.0.now, item.1.now)) (λ left. left) (onward nat_cmp c.args.first.now c.args.ndps.now.entries) (c.take_while.ensures.source ∙ c.walk_from.ensures)) c.take_while.ensures.closure c.take_while.ensures.done (λ x b q k. search (rules, tests)))
    (λ x b q k. search (rules, tests))
