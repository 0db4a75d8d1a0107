use Rattle.state_update.proofs.Keeping.{put_keeps, intfs_keep}
use Rattle.state_update.proofs.ports.add_intf.Goals as goal

pub returns-clause-rest : goal.returns-clause-rest
returns-clause-rest c = intfs_keep c.args.edit.now c.put_intf.new.self c.put_intf.ensures.others (put_keeps (λ s. s.intfs) _ _ _ c.args.edit.now c.put_intf.new.self c.put_intf.result c.put_intf.ensures.map c.put_intf.ensures.err)
