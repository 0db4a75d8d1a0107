use Rattle.state_update.proofs.Keeping.{put_keeps, ports_keep}
use Rattle.state_update.proofs.ports.add_port.Goals as goal

pub returns-clause-rest : goal.returns-clause-rest
returns-clause-rest c = ports_keep c.args.edit.now c.put_port.new.self c.put_port.ensures.others (put_keeps (λ s. s.ports) _ _ _ c.args.edit.now c.put_port.new.self c.put_port.result c.put_port.ensures.map c.put_port.ensures.err)
