use Rattle.std.proofs.Common.{List, map, ap, ◌∙◌, subst}
use Rattle.keyed.specs.Keyed.{Ascends}
use Rattle.net_types.specs.Cidr.{Cidr}
use Rattle.node_map.specs.Map.{MapView}
use Rattle.switch_model.specs.declared.record.RouteRec.{RouteRec}
use Rattle.switch_model.specs.StateKeys.{rib_cmp}
use Rattle.state_keys.specs.KeyLaws.{rib_numbering}
use Rattle.state_keys.specs.PartKeys.{rib_of}
use Rattle.state_scan.specs.Listed.{listed}
use Rattle.state_scan.proofs.Listing.{ascends-listed}
use Rattle.state_update.proofs.Cases.{at_any, if_ok}
use Rattle.state_update.proofs.Synced.{unlisted_listed}
use Rattle.state_update.proofs.Syncing.{unlisted_of}
use Rattle.state_update.proofs.sync.unlisted.Goals as goal

pub returns-clause-unlisted : goal.returns-clause-unlisted
returns-clause-unlisted c = if_ok c.unlisted_in.result (λ v. v.items) _ _ c.unlisted_in.ensures
    (ap (λ (l : List Cidr). unlisted_of c.args.vrf c.args.client l c.routes.result.now.entries) c.as_slice.ensures.value
    ∙ ap (λ (m : MapView RouteRec). unlisted_of c.args.vrf c.args.client c.in_ok-listed.listed.items m.entries) c.routes.ensures.map
    ∙ unlisted_listed c.args.vrf c.args.client c.in_ok-listed.listed.items (map (λ r. r.0) c.args.routes.now) c.in_ok-listed.ensures.same c.args.edit.now.state.routes.entries)

pub returns-clause-ascend : goal.returns-clause-ascend
returns-clause-ascend c = at_any c.unlisted_in.result
    (subst (λ (m : MapView RouteRec). Ascends rib_cmp (listed rib_of m.entries)) c.routes.ensures.map
    (ascends-listed rib_numbering c.routes.result.now.entries c.routes.ensures.part.numbers c.routes.ensures.part.ascends))
