use Rattle.std.proofs.Common.{subst}
use Rattle.std.specs.Ordering.{nat_cmp}
use Rattle.keyed.specs.Keyed.{Ascends}
use Rattle.node_map.specs.Map.{MapView}
use Rattle.switch_model.specs.declared.record.MacRec.{MacRec}
use Rattle.state_update.proofs.Keeping.{cut_keeps, macs_keep}
use Rattle.state_update.proofs.neighbors.cut_station.Goals as goal

pub returns-clause-rest : goal.returns-clause-rest
returns-clause-rest c =
    let ascends : Ascends nat_cmp c.args.edit.now.state.macs.entries = subst (λ (m : MapView MacRec). Ascends nat_cmp m.entries) c.macs.ensures.map c.shape.ensures.ascends in
    macs_keep c.args.edit.now c.cut_mac.new.self c.cut_mac.ensures.others (cut_keeps (λ s. s.macs) _ _ c.args.edit.now c.cut_mac.new.self c.cut_mac.result ascends c.cut_mac.ensures.map c.cut_mac.ensures.err)
