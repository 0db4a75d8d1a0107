use Rattle.std.proofs.Common.{◌∙◌, arith, refl}
use Rattle.net_types.specs.KeyOrder.{route_cmp, route_order}
use Rattle.net_types.specs.Rows.{Rows}
use Rattle.chip_core.specs.Chip.{view_of}
use Rattle.hw_undo.proofs.ChangeLaws.{full-put}
use Rattle.hw_undo.proofs.Leads.{leads-kept, route-absent}
use Rattle.hw_undo.proofs.RollBack.{noted-none, noted-one}
use Rattle.hw_undo.proofs.Undoing.{undoes-added_route}
use Rattle.hw_undo.proofs.Views.{counted, view-put_route}
use Rattle.hw_undo.proofs.routes.put_row.Goals as goal

pub add_route-requires-clause-absent : goal.add_route-requires-clause-absent
add_route-requires-clause-absent g c = route-absent (g.C.HwSwitch.raw c.args.chip.now) _ c.requires.absent

pub returns-in-Ok-clause-view : goal.returns-in-Ok-clause-view
returns-in-Ok-clause-view g c = view-put_route (g.C.HwSwitch.raw c.args.chip.now) _ _ _ _ c.requires.leads.is c.in-Ok.ensures.ok

pub returns-in-Ok-clause-leads : goal.returns-in-Ok-clause-leads
returns-in-Ok-clause-leads g c = leads-kept (g.C.HwSwitch.raw c.args.chip.now) _ _ _ _ c.in-Ok.ensures.ok c.requires.leads

pub add_route-requires-clause-held : goal.add_route-requires-clause-held
add_route-requires-clause-held g c = c.requires.leads.held

pub returns-in-Ok-clause-noted : goal.returns-in-Ok-clause-noted
returns-in-Ok-clause-noted g c = noted-one _ _ _ (λ groups are. undoes-added_route groups _ (g.C.HwSwitch.raw c.args.chip.now) _ _ _ c.in-Ok.ensures.ok (route-absent (g.C.HwSwitch.raw c.args.chip.now) _ c.requires.absent)) c.note.ensures.items c.in-Ok.ensures.caps c.in-Ok.ensures.writes c.note.ensures.len c.note.ensures.room

pub returns-in-Err-clause-full : goal.returns-in-Err-clause-full
returns-in-Err-clause-full g c =
    let sound = g.met.C.HwSwitch.sound c.args.chip.now in
    let rows : Rows = view_of (g.C.HwSwitch.raw c.args.chip.now) in
    full-put route_cmp route_order _ _ _ rows.route c.requires.absent ((counted (g.C.HwSwitch.raw c.args.chip.now) sound.rows).route ∙ c.in-Err.ensures.full.0 refl)

pub returns-in-Err-clause-none : goal.returns-in-Err-clause-none
returns-in-Err-clause-none g c = noted-none _ _ c.in-Err.ensures.err refl c.in-Err.ensures.caps c.in-Err.ensures.writes refl (omega arith)
