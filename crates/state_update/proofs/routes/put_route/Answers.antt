use Rattle.node_map.proofs.Touching.{paths_none}
use Rattle.state_update.proofs.Keeping.{none_new, put_born, put_paths}
use Rattle.state_update.proofs.Renewing.{put_or_renews, renews_still}
use Rattle.state_update.proofs.routes.put_route.Goals as goal

pub returns-in_err-rec-clause-births : goal.returns-in_err-rec-clause-births
returns-in_err-rec-clause-births c = renews_still _ c.args.edit.now.state.routes

pub returns-clause-births : goal.returns-clause-births
returns-clause-births c = put_or_renews (λ s. s.routes) _ _ _ c.args.edit.now c.put_route.new.self c.put_route.result c.put_route.ensures.map c.put_route.ensures.err

pub returns-in_err-rec-clause-paths : goal.returns-in_err-rec-clause-paths
returns-in_err-rec-clause-paths c = paths_none

pub returns-clause-paths : goal.returns-clause-paths
returns-clause-paths c = put_paths (λ s. s.routes) _ _ _ c.args.edit.now c.put_route.new.self c.put_route.result c.put_route.ensures.map c.put_route.ensures.err

pub returns-in_err-rec-clause-born : goal.returns-in_err-rec-clause-born
returns-in_err-rec-clause-born c = none_new c.args.edit.now.state.version c.args.edit.now.state.routes

pub returns-clause-born : goal.returns-clause-born
returns-clause-born c = put_born (λ s. s.routes) _ _ _ c.args.edit.now c.put_route.new.self c.put_route.result c.put_route.ensures.map c.put_route.ensures.err
