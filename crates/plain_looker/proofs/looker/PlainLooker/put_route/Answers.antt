use Rattle.std.proofs.Common.{◌∙◌}
use Rattle.keyed.specs.Keyed.{put}
use Rattle.switch_model.specs.StateKeys.{rib_cmp}
use Rattle.switch_model.specs.contracts.key.RibKeyOrd.TheImpl.Laws.{total-law}
use Rattle.switch_model.proofs.KeyLaws.{rib_same}
use Rattle.plain_looker.proofs.PlainLaws.{put-as, with_routes-as}
use Rattle.plain_looker.proofs.looker.PlainLooker.put_route.Goals as goal

pub returns-clause-ok : goal.returns-clause-ok
returns-clause-ok c = with_routes-as (put rib_cmp c.args.key c.args.rec) _ c.args.self.now c.put.new.self c.self.view_is (c.in_ok-put.ensures.ok ∙ put-as total-law rib_cmp rib_same c.args.key c.args.rec c.self.inside.routes)
