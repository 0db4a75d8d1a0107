use Rattle.std.proofs.Common.{◌∙◌}
use Rattle.state_check.proofs.parts.cut_and_put.Goals as goal

pub returns-clause-base : goal.returns-clause-base
returns-clause-base c = c.put.ensures.base ∙ c.cut.ensures.base

pub returns-clause-version : goal.returns-clause-version
returns-clause-version c = c.put.ensures.version ∙ c.cut.ensures.version
