use Rattle.std.proofs.Common.{◌∙◌}
use Rattle.keyed.specs.Keyed.{without}
use Rattle.switch_model.specs.StateKeys.{rib_cmp}
use Rattle.switch_model.specs.contracts.key.RibKeyOrd.TheImpl.Laws.{total-law}
use Rattle.switch_model.proofs.KeyLaws.{rib_same}
use Rattle.plain_looker.proofs.PlainLaws.{without-as, with_routes-as}
use Rattle.plain_looker.proofs.looker.PlainLooker.cut_route.Goals as goal

pub returns : goal.returns
returns c = with_routes-as (without rib_cmp c.args.key.now) _ c.args.self.now c.cut.new.self c.self.view_is (c.cut.ensures ∙ without-as total-law rib_cmp rib_same c.args.key.now c.self.inside.routes)
