use Rattle.std.proofs.Common.{◌≡◌, List, filter, map, ap, ◌∙◌}
use Rattle.net_types.specs.Cidr.{Cidr}
use Rattle.node_map.proofs.Touching.{paths_weaker}
use Rattle.switch_model.specs.declared.key.RibKey.{RibKey}
use Rattle.switch_model.specs.declared.record.RouteRec.{RouteRec}
use Rattle.switch_model.specs.Effect.{with_routes}
use Rattle.switch_model.specs.PlainState.{PlainState}
use Rattle.switch_state.specs.Plain.{plain}
use Rattle.state_update.specs.Sync.{is_unlisted, without_routes}
use Rattle.state_update.proofs.Cases.{on_ok}
use Rattle.state_update.proofs.Keeping.{routes_keep}
use Rattle.state_update.proofs.Renewing.{lost_and_renewed, lost_births, renewed_births}
use Rattle.state_update.proofs.Synced.{gone_apart, gone_touched, listed_touched, synced}
use Rattle.state_update.proofs.Syncing.{born_further, only_more, paths_further}
use Rattle.state_update.proofs.sync.sync_client.Goals as goal

pub returns-clause-effect : goal.returns-clause-effect
returns-clause-effect c =
    let old : PlainState = plain c.args.edit.now.state in
    let gone : c.as_slice.result.now ≡ map (λ e. e.0.prefix) (filter (λ e. is_unlisted c.args.vrf c.args.client (map (λ r. r.0) c.args.routes.now) e.0) old.routes) = c.as_slice.ensures.value ∙ c.in_ok-gone.ensures.unlisted in
    on_ok c.put_routes.result _ _ _ c.put_routes.ensures.effect
    (ap (λ (m : PlainState). record m { routes = with_routes c.args.vrf c.args.client c.args.routes.now m.routes }) c.in_ok-cut_routes.ensures.effect
    ∙ ap (λ (l : List Cidr). record old { routes = with_routes c.args.vrf c.args.client c.args.routes.now (without_routes c.args.vrf c.args.client l old.routes) }) gone
    ∙ ap (λ (l : List (RibKey × RouteRec)). record old { routes = l }) (synced c.args.vrf c.args.client c.args.routes.now old.routes c.in_ok-gone.ensures.ascend))

pub returns-clause-rest : goal.returns-clause-rest
returns-clause-rest c =
    let gone : c.as_slice.result.now ≡ map (λ e. e.0.prefix) (filter (λ e. is_unlisted c.args.vrf c.args.client (map (λ r. r.0) c.args.routes.now) e.0) (plain c.args.edit.now.state).routes) = c.as_slice.ensures.value ∙ c.in_ok-gone.ensures.unlisted in
    let m : PlainState = plain c.args.edit.now.state in
    let only = c.cut_routes.ensures.others in
    routes_keep c.args.edit.now c.put_routes.new.edit
    (only_more c.args.edit.now c.cut_routes.new.edit c.put_routes.new.edit c.cut_routes.ensures.others c.put_routes.ensures.others)
    (record {
      births = lost_and_renewed (gone_apart c.args.vrf c.args.client c.args.routes.now m.routes c.as_slice.result.now gone) c.cut_routes.ensures.births c.put_routes.ensures.births;
      paths = paths_further c.args.edit.now c.cut_routes.new.edit c.put_routes.new.edit only (listed_touched m c.args.vrf c.args.client c.args.routes.now) (paths_weaker (gone_touched m c.args.vrf c.args.client c.args.routes.now c.as_slice.result.now gone) c.cut_routes.ensures.paths) c.put_routes.ensures.paths;
      born = born_further c.args.edit.now c.cut_routes.new.edit c.put_routes.new.edit only c.cut_routes.ensures.born (renewed_births c.put_routes.ensures.births) c.put_routes.ensures.born;
    })

pub returns-in_err-cut_routes-clause-rest : goal.returns-in_err-cut_routes-clause-rest
returns-in_err-cut_routes-clause-rest c =
    let m : PlainState = plain c.args.edit.now.state in
    let gone : c.as_slice.result.now ≡ map (λ e. e.0.prefix) (filter (λ e. is_unlisted c.args.vrf c.args.client (map (λ r. r.0) c.args.routes.now) e.0) m.routes) = c.as_slice.ensures.value ∙ c.in_ok-gone.ensures.unlisted in
    routes_keep c.args.edit.now c.cut_routes.new.edit c.cut_routes.ensures.others
    (record { births = lost_births c.cut_routes.ensures.births; paths = paths_weaker (gone_touched m c.args.vrf c.args.client c.args.routes.now c.as_slice.result.now gone) c.cut_routes.ensures.paths; born = c.cut_routes.ensures.born })
