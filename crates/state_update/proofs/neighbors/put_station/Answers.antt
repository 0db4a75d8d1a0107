use Rattle.state_update.proofs.Keeping.{put_keeps, macs_keep}
use Rattle.state_update.proofs.neighbors.put_station.Goals as goal

pub returns-clause-rest : goal.returns-clause-rest
returns-clause-rest c = macs_keep c.args.edit.now c.put_mac.new.self c.put_mac.ensures.others (put_keeps (λ s. s.macs) _ _ _ c.args.edit.now c.put_mac.new.self c.put_mac.result c.put_mac.ensures.map c.put_mac.ensures.err)
