use Rattle.switch_model.specs.Effect.{without_addr}
use Rattle.switch_state.specs.Plain.{plain}
use Rattle.state_update.proofs.Cases.{on_ok}
use Rattle.state_update.proofs.Changing.{intfs_changed, intfs_unchanged}
use Rattle.state_update.proofs.Keeping.{intfs_keep, put_keeps}
use Rattle.state_update.proofs.ports.cut_addr.Goals as goal

pub returns-clause-effect : goal.returns-clause-effect
returns-clause-effect c = on_ok c.put_intf.result _ _ _ c.put_intf.ensures.plain (intfs_changed (plain c.args.edit.now.state) c.args.intf (without_addr c.args.addr.now) c.in-Some.rec.now c.in_ok-rec.rec c.in-Some.ensures c.in_ok-rec.ensures)

pub returns-clause-rest : goal.returns-clause-rest
returns-clause-rest c = intfs_keep c.args.edit.now c.put_intf.new.self c.put_intf.ensures.others (put_keeps (λ s. s.intfs) _ _ _ c.args.edit.now c.put_intf.new.self c.put_intf.result c.put_intf.ensures.map c.put_intf.ensures.err)

pub returns-in_default-clause-effect : goal.returns-in_default-clause-effect
returns-in_default-clause-effect c = intfs_unchanged (plain c.args.edit.now.state) c.args.intf (without_addr c.args.addr.now) c.in_default.ensures
