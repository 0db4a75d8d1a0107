use Rattle.std.proofs.Common.{subst}
use Rattle.std.specs.Ordering.{nat_cmp}
use Rattle.keyed.specs.Keyed.{Ascends}
use Rattle.node_map.specs.Map.{MapView}
use Rattle.switch_model.specs.declared.record.IntfRec.{IntfRec}
use Rattle.state_update.proofs.Keeping.{cut_keeps, intfs_keep}
use Rattle.state_update.proofs.ports.cut_intf.Goals as goal

pub returns-clause-rest : goal.returns-clause-rest
returns-clause-rest c =
    let ascends : Ascends nat_cmp c.args.edit.now.state.intfs.entries = subst (λ (m : MapView IntfRec). Ascends nat_cmp m.entries) c.intfs.ensures.map c.shape.ensures.ascends in
    intfs_keep c.args.edit.now c.cut_intf.new.self c.cut_intf.ensures.others (cut_keeps (λ s. s.intfs) _ _ c.args.edit.now c.cut_intf.new.self c.cut_intf.result ascends c.cut_intf.ensures.map c.cut_intf.ensures.err)
