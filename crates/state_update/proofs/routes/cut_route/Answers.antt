use Rattle.std.proofs.Common.{subst}
use Rattle.std.specs.Ordering.{nat_cmp}
use Rattle.keyed.specs.Keyed.{Ascends}
use Rattle.node_map.specs.Map.{MapView}
use Rattle.switch_model.specs.declared.record.RouteRec.{RouteRec}
use Rattle.state_update.proofs.Keeping.{cut_born, cut_paths}
use Rattle.state_update.proofs.Renewing.{cut_or_loses}
use Rattle.state_update.proofs.routes.cut_route.Goals as goal

pub returns-clause-births : goal.returns-clause-births
returns-clause-births c =
    let ascends : Ascends nat_cmp c.args.edit.now.state.routes.entries = subst (λ (m : MapView RouteRec). Ascends nat_cmp m.entries) c.routes.ensures.map c.shape.ensures.ascends in
    cut_or_loses (λ s. s.routes) _ _ c.args.edit.now c.cut_route.new.self c.cut_route.result ascends c.cut_route.ensures.map c.cut_route.ensures.err

pub returns-clause-paths : goal.returns-clause-paths
returns-clause-paths c = cut_paths (λ s. s.routes) _ _ c.args.edit.now c.cut_route.new.self c.cut_route.result c.cut_route.ensures.map c.cut_route.ensures.err

pub returns-clause-born : goal.returns-clause-born
returns-clause-born c =
    let ascends : Ascends nat_cmp c.args.edit.now.state.routes.entries = subst (λ (m : MapView RouteRec). Ascends nat_cmp m.entries) c.routes.ensures.map c.shape.ensures.ascends in
    cut_born (λ s. s.routes) _ _ c.args.edit.now c.cut_route.new.self c.cut_route.result ascends c.cut_route.ensures.map c.cut_route.ensures.err
