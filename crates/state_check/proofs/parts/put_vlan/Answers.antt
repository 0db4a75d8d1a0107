use Rattle.std.proofs.Common.{ap}
use Rattle.switch_state.specs.Edit.{EditView}
use Rattle.state_check.proofs.parts.put_vlan.Goals as goal

pub returns-clause-base : goal.returns-clause-base
returns-clause-base c = ap (λ (e : EditView). e.base) c.put_vlan.ensures.others

pub returns-clause-version : goal.returns-clause-version
returns-clause-version c = ap (λ (e : EditView). e.state.version) c.put_vlan.ensures.others
