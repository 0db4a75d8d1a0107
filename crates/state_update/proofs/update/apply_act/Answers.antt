use Rattle.std.proofs.Common.{sym, ◌∙◌}
use Rattle.switch_state.specs.Plain.{plain}
use Rattle.state_update.proofs.Soundness.{none_of, sound_done}
use Rattle.state_update.proofs.update.apply_act.Goals as goal

pub returns-clause-sound : goal.returns-clause-sound
returns-clause-sound c = sound_done (plain c.args.edit.now.state) (plain c.change.new.edit.state) c.args.act.now (sym c.in_ok-reason.ensures ∙ none_of c.in_ok-reason.field-0 c.in_default.not-Some) c.in_ok-change.ensures.effect
