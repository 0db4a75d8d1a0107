use Rattle.std.proofs.Common.{All, Err, List, sym, ap, ◌∙◌, subst}
use Rattle.keyed.specs.Named.{AreDistinct}
use Rattle.net_types.specs.contracts.table.HostKeyOrd.TheImpl as host
use Rattle.net_types.specs.contracts.table.RouteKeyOrd.TheImpl as route
use Rattle.net_types.specs.declared.table.HostKey.{HostKey}
use Rattle.net_types.specs.declared.table.HostRow.{HostRow}
use Rattle.net_types.specs.declared.table.L2Key.{L2Key}
use Rattle.net_types.specs.declared.table.L2Row.{L2Row}
use Rattle.net_types.specs.declared.table.RouteKey.{RouteKey}
use Rattle.net_types.specs.declared.table.RouteRow.{RouteRow}
use Rattle.net_types.specs.declared.table.Tables.{Tables}
use Rattle.net_types.specs.Groups.{group_key_cmp, group_key_of}
use Rattle.net_types.specs.KeyOrder.{l2_cmp}
use Rattle.chip_core.specs.declared.fault.RowsFault.TheVariants.{BadRows}
use Rattle.chip_core.specs.Chip.{AreLinked}
use Rattle.chip_core.specs.Sim.{Contents}
use Rattle.chip_core.specs.Slots.{Groups, Hosts, host_entries}
use Rattle.chip_core.specs.Tables.{IsGroupRow, IsSlotted}
use Rattle.chip_core.proofs.ImageLaws.{hosts_distinct, image_from, image_group, image_host, image_l2, image_route, shaped_groups, shaped_image, tables_as}
use Rattle.chip_core.proofs.Outcomes.{refused, same_fault}
use Rattle.chip_core.proofs.sim.SimChip.from_rows.Goals as goal
use Rattle.sorted_table.specs.Rows.{IsSorted}

pub group_table-requires : goal.group_table-requires
group_table-requires c =
    let shaped = c.are_shaped.ensures.0 c.if-not-are_shaped.false in
    let groups = subst (λ (g : Groups). All (λ group. IsGroupRow group.1) g) (sym c.as_slice-2.ensures) (shaped_groups c.args.caps c.args.tables shaped) in
    λ k d lt. (groups k d lt).long

pub returns-then-not-are_shaped-clause-bad : goal.returns-then-not-are_shaped-clause-bad
returns-then-not-are_shaped-clause-bad c is image = refused c.are_shaped.result c.are_shaped.ensures.1 c.if-not-are_shaped.true (shaped_image c.args.caps c.args.tables image)

pub returns-in-Err-host_table-clause-bad : goal.returns-in-Err-host_table-clause-bad
returns-in-Err-host_table-clause-bad c is image =
    let by_host = subst (λ (h : Hosts). IsSlotted (host.cmp-value).it (λ (e : HostKey × HostRow). e.0) c.args.caps.host (host_entries h)) (sym c.as_slice.ensures) (image_host c.args.caps c.args.tables image) in
    c.in-Err-host_table.ensures.bad (ap Err (same_fault c.in-Err-host_table.fault BadRows is)) by_host

pub returns-in-Err-group_table-clause-bad : goal.returns-in-Err-group_table-clause-bad
returns-in-Err-group_table-clause-bad c is image =
    let by_group = subst (λ (g : Groups). IsSlotted group_key_cmp group_key_of c.args.caps.group g) (sym c.as_slice-2.ensures) (image_group c.args.caps c.args.tables image) in
    c.in-Err-group_table.ensures.bad (ap Err (same_fault c.in-Err-group_table.fault BadRows is)) by_group

pub returns-in-Err-clause-bad : goal.returns-in-Err-clause-bad
returns-in-Err-clause-bad c is image =
    let by_l2 = subst (λ (l : List (L2Key × L2Row)). IsSorted l2_cmp c.args.caps.l2 l) (sym c.into_vec.ensures) (image_l2 c.args.caps c.args.tables image) in
    c.in-Err.ensures.bad (ap Err (same_fault c.in-Err.fault BadRows is)) by_l2

pub returns-in-Err-sorted_table-clause-bad : goal.returns-in-Err-sorted_table-clause-bad
returns-in-Err-sorted_table-clause-bad c is image =
    let by_route = subst (λ (r : List (RouteKey × RouteRow)). IsSorted (route.cmp-value).it c.args.caps.route r) (sym c.into_vec-2.ensures) (image_route c.args.caps c.args.tables image) in
    c.in-Err-sorted_table.ensures.bad (ap Err (same_fault c.in-Err-sorted_table.fault BadRows is)) by_route

pub returns-clause-raw : goal.returns-clause-raw
returns-clause-raw c = tables_as c.args.tables (record { l2 = c.in-Ok.table.rows; host = c.in-Ok-host_table.table.rows; group = c.in-Ok-group_table.table.rows; route = c.in-Ok-sorted_table.table.rows }) (c.in-Ok.ensures.rows ∙ c.into_vec.ensures) (c.in-Ok-host_table.ensures.rows ∙ ap host_entries c.as_slice.ensures) (c.in-Ok-group_table.ensures.rows ∙ c.as_slice-2.ensures) (c.in-Ok-sorted_table.ensures.rows ∙ c.into_vec-2.ensures)

pub invariant_of-result : goal.invariant_of-result
invariant_of-result c =
    let shaped = c.are_shaped.ensures.0 c.if-not-are_shaped.false in
    let contents : Contents = record { l2 = c.in-Ok.table.rows; host = c.in-Ok-host_table.table.rows; group = c.in-Ok-group_table.table.rows; route = c.in-Ok-sorted_table.table.rows } in
    let same = tables_as c.args.tables contents (c.in-Ok.ensures.rows ∙ c.into_vec.ensures) (c.in-Ok-host_table.ensures.rows ∙ ap host_entries c.as_slice.ensures) (c.in-Ok-group_table.ensures.rows ∙ c.as_slice-2.ensures) (c.in-Ok-sorted_table.ensures.rows ∙ c.into_vec-2.ensures) in
    record {
      l2_sorted = c.in-Ok.ensures.sorted;
      routes_sorted = c.in-Ok-sorted_table.ensures.sorted;
      hosts_slotted = c.in-Ok-host_table.ensures.slotted;
      groups_slotted = c.in-Ok-group_table.ensures.slotted;
      linked = subst (λ (raw : Tables). AreLinked raw) (sym same) shaped.links;
    }

pub returns-clause-image : goal.returns-clause-image
returns-clause-image c =
    let shaped = c.are_shaped.ensures.0 c.if-not-are_shaped.false in
    let host_keys = hosts_distinct _ c.in-Ok-host_table.table.rows (host_entries c.args.tables.host) (c.in-Ok-host_table.ensures.rows ∙ ap host_entries c.as_slice.ensures) c.in-Ok-host_table.ensures.slotted in
    let group_keys = subst (λ (g : Groups). AreDistinct group_key_cmp group_key_of g) (c.in-Ok-group_table.ensures.rows ∙ c.as_slice-2.ensures) c.in-Ok-group_table.ensures.slotted.distinct in
    image_from c.args.caps c.args.tables shaped host_keys group_keys
