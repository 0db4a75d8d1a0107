use Rattle.std.proofs.Common.{◌≡◌, Ok, rules}
use Rattle.switch_laws.proofs.SoundLaws.{sound-built}
use Rattle.switch_model.specs.PlainState.{empty}
use Rattle.switch_model.specs.Built.{built}
use Rattle.switch_state.specs.Plain.{plain}
use Rattle.state_update.proofs.Cases.{no_value}
use Rattle.state_update.proofs.Building.{born_of_nothing, made_of_nothing, refused_only}
use Rattle.state_update.proofs.acts.build.Goals as goal

pub returns-in_err-do_acts-clause-refused : goal.returns-in_err-do_acts-clause-refused
returns-in_err-do_acts-clause-refused c = refused_only empty c.args.acts.now plain c.from_residual-in_err-do_acts.result (no_value c.from_residual-in_err-do_acts.result (λ s. built empty c.args.acts.now ≡ Ok (plain s)) c.from_residual-in_err-do_acts.ensures.0) (search rules)

pub returns-clause-refused : goal.returns-clause-refused
returns-clause-refused c = refused_only empty c.args.acts.now plain (Ok c.finish.result) (search rules) (search rules)

pub returns-clause-made : goal.returns-clause-made
returns-clause-made c = made_of_nothing c.args.version c.do_acts.ensures.paths.0 c.in_ok-edit.edit.state c.do_acts.new.edit.state c.finish.result c.in_ok-edit.ensures c.do_acts.ensures.paths.1 c.do_acts.ensures.fibs c.finish.ensures.state

pub returns-clause-born : goal.returns-clause-born
returns-clause-born c = born_of_nothing c.args.version c.in_ok-edit.edit.state c.do_acts.new.edit.state c.finish.result c.in_ok-edit.ensures c.do_acts.ensures.born c.finish.ensures.state

pub returns-clause-sound : goal.returns-clause-sound
returns-clause-sound c = sound-built (plain c.finish.result) c.args.acts.now (search rules)
