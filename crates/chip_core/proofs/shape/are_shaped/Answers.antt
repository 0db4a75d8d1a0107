use Rattle.std.proofs.Common.{All, subst, sym}
use Rattle.chip_core.specs.Slots.{Groups}
use Rattle.chip_core.specs.Tables.{IsGroupRow}
use Rattle.chip_core.proofs.ImageLaws.{linked_as, shaped_from, shaped_groups, shaped_members, shaped_order, shaped_routes}
use Rattle.chip_core.proofs.Outcomes.{never, refused}
use Rattle.chip_core.proofs.shape.are_shaped.Goals as goal

pub returns-then-not-are_in_order : goal.returns-then-not-are_in_order
returns-then-not-are_in_order c = ((λ h. never h), (λ shaped. absurd (refused c.are_in_order.result c.are_in_order.ensures.1 c.if-not-are_in_order.true (shaped_order c.args.caps c.args.tables.now shaped))))

pub returns-then-not-are_group_rows : goal.returns-then-not-are_group_rows
returns-then-not-are_group_rows c = ((λ h. never h), (λ shaped. absurd (refused c.are_group_rows.result c.are_group_rows.ensures.1 c.if-not-are_group_rows.true (subst (λ (l : Groups). All (λ group. IsGroupRow group.1) l) (sym c.as_slice-groups.ensures) (shaped_groups c.args.caps c.args.tables.now shaped)))))

pub returns : goal.returns
returns c =
    let caps = c.args.caps in
    let tables = c.args.tables.now in
    let hosts = c.as_slice.result.now in
    let groups = c.as_slice-groups.result.now in
    let routes = c.as_slice-2.result.now in
    let rows = subst (λ (l : Groups). All (λ group. IsGroupRow group.1) l) c.as_slice-groups.ensures (c.are_group_rows.ensures.0 c.if-not-are_group_rows.false) in (
      (λ h. let linked = linked_as tables.host hosts tables.group groups tables.route routes (sym c.as_slice.ensures) (sym c.as_slice-groups.ensures) (sym c.as_slice-2.ensures) (c.are_linked.ensures.0 h) in shaped_from caps tables (c.are_in_order.ensures.0 c.if-not-are_in_order.false) rows linked.0 linked.1),
      (λ shaped. c.are_linked.ensures.1 (linked_as hosts tables.host groups tables.group routes tables.route c.as_slice.ensures c.as_slice-groups.ensures c.as_slice-2.ensures (shaped_members caps tables shaped, shaped_routes caps tables shaped))),
    )
