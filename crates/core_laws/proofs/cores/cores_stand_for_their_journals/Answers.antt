use Rattle.std.proofs.Common.{ap, ◌∙◌}
use Rattle.core_laws.proofs.AudienceLaws.{all_so, latest_is}
use Rattle.core_laws.proofs.CoreLaws.{core_fits, core_sound}
use Rattle.core_laws.proofs.cores.cores_stand_for_their_journals.Goals as goal
use Rattle.core_laws.specs.Audience.{IsUpToDate}
use Rattle.switch_model.specs.PlainState.{PlainState}
use Rattle.switch_model.specs.Rows.{rows}

pub returns-clause-legal : goal.returns-clause-legal
returns-clause-legal c = λ core is. is.legal

pub returns-clause-sound : goal.returns-clause-sound
returns-clause-sound c = core_sound

pub returns-clause-fits : goal.returns-clause-fits
returns-clause-fits c = core_fits

pub returns-clause-view : goal.returns-clause-view
returns-clause-view c = λ core is published. is.view ∙ ap (λ (m : PlainState). rows m) published.plain

pub returns-clause-standing : goal.returns-clause-standing
returns-clause-standing c = λ core is. is.heard.standing

pub returns-clause-latest : goal.returns-clause-latest
returns-clause-latest c = λ core is published. all_so (IsUpToDate core.published.state) _ core.audience.watches (λ w at which. latest_is core.published w published which at) is.heard.latest
