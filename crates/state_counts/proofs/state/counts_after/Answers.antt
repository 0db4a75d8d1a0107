use Rattle.std.proofs.Common.{◌≡◌, sym, ap, ◌∙◌}
use Rattle.switch_model.specs.declared.record.Totals.{Totals}
use Rattle.switch_state.proofs.Deltas.{may_differ}
use Rattle.state_counts.proofs.Parts.{after_map, after_ups, counts_by_map, map_counts, totals_same}
use Rattle.state_counts.proofs.state.counts_after.Goals as goal

pub part_after-requires : goal.part_after-requires
part_after-requires c = may_differ c.args.old.now.version c.ports.ensures.map c.ports-2.ensures.map c.requires.follows.parts.ports

pub up_after-requires : goal.up_after-requires
up_after-requires c = may_differ c.args.old.now.version c.ports-3.ensures.map c.ports-4.ensures.map c.requires.follows.parts.ports

pub part_after-requires-2 : goal.part_after-requires-2
part_after-requires-2 c = may_differ c.args.old.now.version c.vlans.ensures.map c.vlans-2.ensures.map c.requires.follows.parts.vlans

pub part_after-requires-3 : goal.part_after-requires-3
part_after-requires-3 c = may_differ c.args.old.now.version c.intfs.ensures.map c.intfs-2.ensures.map c.requires.follows.parts.intfs

pub part_after-requires-4 : goal.part_after-requires-4
part_after-requires-4 c = may_differ c.args.old.now.version c.macs.ensures.map c.macs-2.ensures.map c.requires.follows.parts.macs

pub neighbors_after-requires : goal.neighbors_after-requires
neighbors_after-requires c = c.requires.follows

pub part_after-requires-5 : goal.part_after-requires-5
part_after-requires-5 c = may_differ c.args.old.now.version c.routes.ensures.map c.routes-2.ensures.map c.requires.follows.parts.routes

pub part_after-requires-6 : goal.part_after-requires-6
part_after-requires-6 c = may_differ c.args.old.now.version c.fibs.ensures.map c.fibs-2.ensures.map c.requires.follows.parts.fibs

pub returns : goal.returns
returns c =
    let before : c.args.before.now ≡ map_counts c.args.old.now = c.requires.before ∙ counts_by_map c.args.old.now c.shape.ensures.state in
    let same = totals_same
    (after_map c.args.before.now.ports c.part_after.result c.ports.ensures.map c.ports-2.ensures.map c.part_after.ensures (ap (λ (t : Totals). t.ports) before))
    (after_ups c.args.before.now.up c.up_after.result c.ports-3.ensures.map c.ports-4.ensures.map c.up_after.ensures (ap (λ (t : Totals). t.up) before))
    (after_map c.args.before.now.vlans c.part_after-2.result c.vlans.ensures.map c.vlans-2.ensures.map c.part_after-2.ensures (ap (λ (t : Totals). t.vlans) before))
    (after_map c.args.before.now.intfs c.part_after-3.result c.intfs.ensures.map c.intfs-2.ensures.map c.part_after-3.ensures (ap (λ (t : Totals). t.intfs) before))
    (after_map c.args.before.now.macs c.part_after-4.result c.macs.ensures.map c.macs-2.ensures.map c.part_after-4.ensures (ap (λ (t : Totals). t.macs) before))
    (c.neighbors_after.ensures (ap (λ (t : Totals). t.neighbors) before))
    (after_map c.args.before.now.routes c.part_after-5.result c.routes.ensures.map c.routes-2.ensures.map c.part_after-5.ensures (ap (λ (t : Totals). t.routes) before))
    (after_map c.args.before.now.fib c.part_after-6.result c.fibs.ensures.map c.fibs-2.ensures.map c.part_after-6.ensures (ap (λ (t : Totals). t.fib) before))
    in record { after = same ∙ sym (counts_by_map c.args.new.now c.shape-2.ensures.state) }
