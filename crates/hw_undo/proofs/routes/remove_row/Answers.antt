use Rattle.std.proofs.Common.{List, ap, sym, ◌∙◌}
use Rattle.net_types.specs.KeyOrder.{route_cmp}
use Rattle.net_types.specs.Rows.{Rows}
use Rattle.net_types.specs.declared.table.HopTarget.{HopTarget}
use Rattle.net_types.specs.declared.table.RouteKey.{RouteKey}
use Rattle.chip_core.specs.Chip.{view_of}
use Rattle.hw_undo.proofs.ChangeLaws.{without-absent}
use Rattle.hw_undo.proofs.Leads.{route-there}
use Rattle.hw_undo.proofs.RollBack.{noted-one}
use Rattle.hw_undo.proofs.Undoing.{undoes-removed_route}
use Rattle.hw_undo.proofs.Views.{view-without_route}
use Rattle.hw_undo.proofs.routes.remove_row.Goals as goal

pub del_route-row-requires : goal.del_route-row-requires
del_route-row-requires g c = route-there (g.C.HwSwitch.raw c.args.chip.now) _ _ (c.requires.old ∙ c.in-Some.is)

pub returns-in-Some-clause-view : goal.returns-in-Some-clause-view
returns-in-Some-clause-view g c = view-without_route (g.C.HwSwitch.raw c.args.chip.now) _ _ c.del_route-row.ensures.raw

pub returns-in-Some-clause-noted : goal.returns-in-Some-clause-noted
returns-in-Some-clause-noted g c =
    let sound = g.met.C.HwSwitch.sound c.args.chip.now in
    rw c.in-Some.is (noted-one _ _ _ (λ groups are. undoes-removed_route groups _ (g.C.HwSwitch.raw c.args.chip.now) _ _ _ sound c.del_route-row.ensures.raw c.del_route-row.ensures.old) c.note.ensures.items c.del_route-row.ensures.caps c.del_route-row.ensures.writes c.note.ensures.len c.note.ensures.room)

pub returns-in-None-clause-view : goal.returns-in-None-clause-view
returns-in-None-clause-view g c =
    let rows : Rows = view_of (g.C.HwSwitch.raw c.args.chip.now) in
    ap (λ (l : List (RouteKey × HopTarget)). record rows { route = l }) (sym (without-absent route_cmp c.args.key.now rows.route (c.requires.old ∙ c.in-None.is)))
