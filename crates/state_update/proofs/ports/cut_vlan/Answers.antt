use Rattle.std.proofs.Common.{subst}
use Rattle.std.specs.Ordering.{nat_cmp}
use Rattle.keyed.specs.Keyed.{Ascends}
use Rattle.node_map.specs.Map.{MapView}
use Rattle.switch_model.specs.declared.record.VlanRec.{VlanRec}
use Rattle.state_update.proofs.Keeping.{cut_keeps, vlans_keep}
use Rattle.state_update.proofs.ports.cut_vlan.Goals as goal

pub returns-clause-rest : goal.returns-clause-rest
returns-clause-rest c =
    let ascends : Ascends nat_cmp c.args.edit.now.state.vlans.entries = subst (λ (m : MapView VlanRec). Ascends nat_cmp m.entries) c.vlans.ensures.map c.shape.ensures.ascends in
    vlans_keep c.args.edit.now c.cut_vlan.new.self c.cut_vlan.ensures.others (cut_keeps (λ s. s.vlans) _ _ c.args.edit.now c.cut_vlan.new.self c.cut_vlan.result ascends c.cut_vlan.ensures.map c.cut_vlan.ensures.err)
