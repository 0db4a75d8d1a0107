use Rattle.std.proofs.Common.{All, ap, subst, ◌∙◌}
use Rattle.json_form.specs.Lists.{rows_json}
use Rattle.saved_rows.specs.ChipRows.{IsGroup, IsHost, IsL2, IsRoute, group_json, host_json, l2_json, route_json}
use Rattle.saved_state.proofs.Orders.{are_tables}
use Rattle.saved_state.proofs.Said.{chip_said}
use Rattle.saved_state.proofs.save.chip_value.Goals as goal

pub returns-clause-legal : goal.returns-clause-legal
returns-clause-legal c = are_tables c.args.tables.now
    (subst (All IsGroup) c.as_slice.ensures c.in_ok-group.ensures.legal)
    (subst (All IsHost) c.as_slice-2.ensures c.in_ok-host.ensures.legal)
    (subst (All IsL2) c.as_slice-3.ensures c.in_ok-l2.ensures.legal)
    (subst (All IsRoute) c.as_slice-4.ensures c.in_ok-route.ensures.legal)

pub returns-clause-value : goal.returns-clause-value
returns-clause-value c = c.in_ok-value.ensures ∙ chip_said c.args.tables.now _ _ _ _
    (c.in_ok-group.ensures.value ∙ ap (rows_json group_json) c.as_slice.ensures)
    (c.in_ok-host.ensures.value ∙ ap (rows_json host_json) c.as_slice-2.ensures)
    (c.in_ok-l2.ensures.value ∙ ap (rows_json l2_json) c.as_slice-3.ensures)
    (c.in_ok-route.ensures.value ∙ ap (rows_json route_json) c.as_slice-4.ensures)
