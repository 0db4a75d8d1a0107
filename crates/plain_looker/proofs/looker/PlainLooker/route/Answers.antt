use Rattle.std.proofs.Common.{ap, ◌∙◌}
use Rattle.keyed.specs.Keyed.{at}
use Rattle.switch_model.specs.PlainState.{PlainState}
use Rattle.switch_model.specs.StateKeys.{rib_cmp}
use Rattle.switch_model.specs.contracts.key.RibKeyOrd.TheImpl.Laws.{total-law}
use Rattle.switch_model.proofs.KeyLaws.{rib_same}
use Rattle.plain_looker.proofs.PlainLaws.{at-as}
use Rattle.plain_looker.proofs.looker.PlainLooker.route.Goals as goal

pub returns : goal.returns
returns c = c.get.ensures ∙ at-as total-law rib_cmp rib_same c.args.key.now c.self.inside.routes ∙ ap (λ (m : PlainState). at rib_cmp c.args.key.now m.routes) c.self.view_is
