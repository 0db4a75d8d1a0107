use Rattle.state_update.proofs.Keeping.{put_keeps, vlans_keep}
use Rattle.state_update.proofs.ports.add_vlan.Goals as goal

pub returns-clause-rest : goal.returns-clause-rest
returns-clause-rest c = vlans_keep c.args.edit.now c.put_vlan.new.self c.put_vlan.ensures.others (put_keeps (λ s. s.vlans) _ _ _ c.args.edit.now c.put_vlan.new.self c.put_vlan.result c.put_vlan.ensures.map c.put_vlan.ensures.err)
