use Rattle.std.proofs.Common.{refl}
use Rattle.switch_model.specs.Effect.{with_up}
use Rattle.switch_state.specs.Plain.{plain}
use Rattle.state_update.proofs.Cases.{on_ok}
use Rattle.state_update.proofs.Changing.{ports_changed, ports_unchanged}
use Rattle.state_update.proofs.Keeping.{put_keeps, ports_keep}
use Rattle.state_update.proofs.ports.flip_port.Goals as goal

pub returns-in-Some-clause-effect : goal.returns-in-Some-clause-effect
returns-in-Some-clause-effect c = on_ok c.put_port.result _ _ _ c.put_port.ensures.plain (ports_changed (plain c.args.edit.now.state) c.args.port (with_up c.args.up) c.in-Some.rec _ c.in-Some.ensures refl)

pub returns-in-Some-clause-rest : goal.returns-in-Some-clause-rest
returns-in-Some-clause-rest c = ports_keep c.args.edit.now c.put_port.new.self c.put_port.ensures.others (put_keeps (λ s. s.ports) _ _ _ c.args.edit.now c.put_port.new.self c.put_port.result c.put_port.ensures.map c.put_port.ensures.err)

pub returns-in-None-clause-effect : goal.returns-in-None-clause-effect
returns-in-None-clause-effect c = ports_unchanged (plain c.args.edit.now.state) c.args.port (with_up c.args.up) c.in-None.ensures
