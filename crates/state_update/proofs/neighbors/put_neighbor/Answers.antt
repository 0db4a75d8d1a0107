use Rattle.state_update.proofs.Keeping.{arp_touched, arps_keep, ndp_touched, ndps_keep, put_keeps}
use Rattle.state_update.proofs.neighbors.put_neighbor.Goals as goal

pub returns-in-V4-clause-rest : goal.returns-in-V4-clause-rest
returns-in-V4-clause-rest c = arp_touched c.args.key.0 _ c.args.key.1 c.args.edit.now c.put_arp.new.self c.in-V4.is (arps_keep c.args.edit.now c.put_arp.new.self c.put_arp.ensures.others (put_keeps (λ s. s.arps) _ _ _ c.args.edit.now c.put_arp.new.self c.put_arp.result c.put_arp.ensures.map c.put_arp.ensures.err))

pub returns-in-V6-clause-rest : goal.returns-in-V6-clause-rest
returns-in-V6-clause-rest c = ndp_touched c.args.key.0 _ c.args.key.1 c.args.edit.now c.put_ndp.new.self c.in-V6.is (ndps_keep c.args.edit.now c.put_ndp.new.self c.put_ndp.ensures.others (put_keeps (λ s. s.ndps) _ _ _ c.args.edit.now c.put_ndp.new.self c.put_ndp.result c.put_ndp.ensures.map c.put_ndp.ensures.err))
