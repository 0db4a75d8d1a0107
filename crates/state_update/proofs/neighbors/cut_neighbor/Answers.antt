use Rattle.std.proofs.Common.{subst}
use Rattle.std.specs.Ordering.{nat_cmp}
use Rattle.keyed.specs.Keyed.{Ascends}
use Rattle.node_map.specs.Map.{MapView}
use Rattle.switch_model.specs.declared.record.NeighborRec.{NeighborRec}
use Rattle.state_update.proofs.Keeping.{arp_touched, arps_keep, cut_keeps, ndp_touched, ndps_keep}
use Rattle.state_update.proofs.neighbors.cut_neighbor.Goals as goal

pub returns-in-V4-clause-rest : goal.returns-in-V4-clause-rest
returns-in-V4-clause-rest c =
    let ascends : Ascends nat_cmp c.args.edit.now.state.arps.entries = subst (λ (m : MapView NeighborRec). Ascends nat_cmp m.entries) c.arps.ensures.map c.shape.ensures.ascends in
    arp_touched c.args.key.0 _ c.args.key.1 c.args.edit.now c.cut_arp.new.self c.in-V4.is (arps_keep c.args.edit.now c.cut_arp.new.self c.cut_arp.ensures.others (cut_keeps (λ s. s.arps) _ _ c.args.edit.now c.cut_arp.new.self c.cut_arp.result ascends c.cut_arp.ensures.map c.cut_arp.ensures.err))

pub returns-in-V6-clause-rest : goal.returns-in-V6-clause-rest
returns-in-V6-clause-rest c =
    let ascends : Ascends nat_cmp c.args.edit.now.state.ndps.entries = subst (λ (m : MapView NeighborRec). Ascends nat_cmp m.entries) c.ndps.ensures.map c.shape-in-V6.ensures.ascends in
    ndp_touched c.args.key.0 _ c.args.key.1 c.args.edit.now c.cut_ndp.new.self c.in-V6.is (ndps_keep c.args.edit.now c.cut_ndp.new.self c.cut_ndp.ensures.others (cut_keeps (λ s. s.ndps) _ _ c.args.edit.now c.cut_ndp.new.self c.cut_ndp.result ascends c.cut_ndp.ensures.map c.cut_ndp.ensures.err))
