use Rattle.std.proofs.Common.{subst}
use Rattle.std.specs.Ordering.{nat_cmp}
use Rattle.keyed.specs.Keyed.{Ascends}
use Rattle.node_map.specs.Map.{MapView}
use Rattle.switch_model.specs.declared.record.PortRec.{PortRec}
use Rattle.state_update.proofs.Keeping.{cut_keeps, ports_keep}
use Rattle.state_update.proofs.ports.cut_port.Goals as goal

pub returns-clause-rest : goal.returns-clause-rest
returns-clause-rest c =
    let ascends : Ascends nat_cmp c.args.edit.now.state.ports.entries = subst (λ (m : MapView PortRec). Ascends nat_cmp m.entries) c.ports.ensures.map c.shape.ensures.ascends in
    ports_keep c.args.edit.now c.cut_port.new.self c.cut_port.ensures.others (cut_keeps (λ s. s.ports) _ _ c.args.edit.now c.cut_port.new.self c.cut_port.result ascends c.cut_port.ensures.map c.cut_port.ensures.err)
