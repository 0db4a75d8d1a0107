use Rattle.std.proofs.Common.{◌∙◌}
use Rattle.switch_state.specs.Plain.{plain}
use Rattle.saved_state.proofs.Said.{body_said}
use Rattle.saved_state.proofs.save.body_value.Goals as goal

pub returns-clause-value : goal.returns-clause-value
returns-clause-value c = c.in_ok-value.ensures ∙ body_said (plain c.args.state.now) c.args.state.now.version c.args.tables.now c.args.caps.now _ _ _ _
    c.in_ok-caps.ensures c.in_ok-chip.ensures.value c.in_ok-lists.ensures.value c.version.ensures
