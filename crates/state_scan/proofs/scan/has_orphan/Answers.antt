use Rattle.std.proofs.Common.{ℕ, Bool, ◌==◌, ◌&&◌, not, sym, ◌∙◌}
use Rattle.std.specs.List.{list_any}
use Rattle.std.specs.Option.{option_copied}
use Rattle.keyed.specs.Sets.{delete}
use Rattle.node_core.specs.Node.{NodeView}
use Rattle.switch_model.specs.declared.key.NeighborKey.{NeighborKey}
use Rattle.switch_model.specs.declared.record.NeighborRec.{NeighborRec}
use Rattle.switch_model.specs.Addresses.{addr_cmp, is_on}
use Rattle.switch_model.specs.Facts.{addrs_of}
use Rattle.state_keys.specs.PartKeys.{arp_of, ndp_of}
use Rattle.state_scan.specs.Listed.{listed}
use Rattle.state_scan.proofs.Listing.{any_listed, or_else, or_then}
use Rattle.state_scan.proofs.Near.{arps_near, ndps_near}
use Rattle.state_scan.proofs.Neighbors.{any_neighbor}
use Rattle.state_scan.proofs.scan.has_orphan.Goals as goal

pub returns-then-some_arp_strays : goal.returns-then-some_arp_strays
returns-then-some_arp_strays c =
    let test : NeighborKey × NeighborRec → Bool = λ e. (e.0.intf == c.args.intf) && not (is_on (delete addr_cmp c.args.addr.now (addrs_of (option_copied c.args.own))) e.0.ip) in
    let strays : ℕ × NodeView NeighborRec → Bool = λ e. not (is_on (delete addr_cmp c.args.addr.now (addrs_of (option_copied c.args.own))) (arp_of e.0).ip) in
    let arps = c.some_arp_strays.ensures ∙ arps_near strays c.args.intf c.intf_key-first.result c.args.arps.now.entries c.intf_key-first.ensures.key c.shape.ensures.ascends c.requires.by_arp in
    or_then (list_any test (listed ndp_of c.args.ndps.now.entries)) (any_listed arp_of test c.args.arps.now.entries ∙ sym arps) c.if-some_arp_strays.true ∙ sym (any_neighbor test c.args.arps.now c.args.ndps.now c.requires)

pub returns-else-some_arp_strays : goal.returns-else-some_arp_strays
returns-else-some_arp_strays c =
    let test : NeighborKey × NeighborRec → Bool = λ e. (e.0.intf == c.args.intf) && not (is_on (delete addr_cmp c.args.addr.now (addrs_of (option_copied c.args.own))) e.0.ip) in
    let arp_strays : ℕ × NodeView NeighborRec → Bool = λ e. not (is_on (delete addr_cmp c.args.addr.now (addrs_of (option_copied c.args.own))) (arp_of e.0).ip) in
    let ndp_strays : ℕ × NodeView NeighborRec → Bool = λ e. not (is_on (delete addr_cmp c.args.addr.now (addrs_of (option_copied c.args.own))) (ndp_of e.0).ip) in
    let arps = c.some_arp_strays.ensures ∙ arps_near arp_strays c.args.intf c.intf_key-first.result c.args.arps.now.entries c.intf_key-first.ensures.key c.shape.ensures.ascends c.requires.by_arp in
    let ndps = c.some_ndp_strays.ensures ∙ ndps_near ndp_strays c.args.intf c.intf_key-first.result c.args.ndps.now.entries c.intf_key-first.ensures.key c.shape-2.ensures.ascends c.requires.by_ndp in
    or_else (any_listed arp_of test c.args.arps.now.entries ∙ sym arps) c.if-some_arp_strays.false (any_listed ndp_of test c.args.ndps.now.entries ∙ sym ndps) ∙ sym (any_neighbor test c.args.arps.now c.args.ndps.now c.requires)
