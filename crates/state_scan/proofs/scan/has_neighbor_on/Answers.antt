use Rattle.std.proofs.Common.{ℕ, Bool, true, ◌==◌, sym, ◌∙◌}
use Rattle.std.specs.List.{list_any}
use Rattle.node_core.specs.Node.{NodeView}
use Rattle.switch_model.specs.declared.key.NeighborKey.{NeighborKey}
use Rattle.switch_model.specs.declared.record.NeighborRec.{NeighborRec}
use Rattle.state_keys.specs.PartKeys.{arp_of, intf_of, ndp_of}
use Rattle.state_scan.specs.Listed.{listed}
use Rattle.state_scan.proofs.Listing.{any_listed, or_else, or_then}
use Rattle.state_scan.proofs.Near.{any_front, arps_near, ndps_near}
use Rattle.state_scan.proofs.Neighbors.{any_neighbor}
use Rattle.state_scan.proofs.scan.has_neighbor_on.Goals as goal

pub returns-then-some_on : goal.returns-then-some_on
returns-then-some_on c =
    let test : NeighborKey × NeighborRec → Bool = λ e. e.0.intf == c.args.intf in
    let own : ℕ × NodeView NeighborRec → Bool = λ e. intf_of e.0 == c.args.intf in
    let arps = c.some_on.ensures ∙ arps_near (λ e. true) c.args.intf c.intf_key-first.result c.args.arps.now.entries c.intf_key-first.ensures.key c.shape.ensures.ascends c.requires.by_arp ∙ any_front own c.args.arps.now.entries in
    or_then (list_any test (listed ndp_of c.args.ndps.now.entries)) (any_listed arp_of test c.args.arps.now.entries ∙ sym arps) c.if-some_on.true ∙ sym (any_neighbor test c.args.arps.now c.args.ndps.now c.requires)

pub returns-else-some_on : goal.returns-else-some_on
returns-else-some_on c =
    let test : NeighborKey × NeighborRec → Bool = λ e. e.0.intf == c.args.intf in
    let own : ℕ × NodeView NeighborRec → Bool = λ e. intf_of e.0 == c.args.intf in
    let arps = c.some_on.ensures ∙ arps_near (λ e. true) c.args.intf c.intf_key-first.result c.args.arps.now.entries c.intf_key-first.ensures.key c.shape.ensures.ascends c.requires.by_arp ∙ any_front own c.args.arps.now.entries in
    let ndps = c.some_on-else-some_on.ensures ∙ ndps_near (λ e. true) c.args.intf c.intf_key-first.result c.args.ndps.now.entries c.intf_key-first.ensures.key c.shape-2.ensures.ascends c.requires.by_ndp ∙ any_front own c.args.ndps.now.entries in
    or_else (any_listed arp_of test c.args.arps.now.entries ∙ sym arps) c.if-some_on.false (any_listed ndp_of test c.args.ndps.now.entries ∙ sym ndps) ∙ sym (any_neighbor test c.args.arps.now c.args.ndps.now c.requires)
