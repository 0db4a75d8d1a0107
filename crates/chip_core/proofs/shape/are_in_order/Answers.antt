use Rattle.std.proofs.Common.{List, subst, sym}
use Rattle.std.specs.declared.cmp.Ordering.{Ordering}
use Rattle.net_types.specs.Derived.{route-derived}
use Rattle.net_types.specs.KeyOrder.{l2_cmp}
use Rattle.net_types.specs.contracts.table.RouteKeyOrd.TheImpl as route
use Rattle.net_types.specs.declared.table.L2Key.{L2Key}
use Rattle.net_types.specs.declared.table.L2Row.{L2Row}
use Rattle.net_types.specs.declared.table.RouteKey.{RouteKey}
use Rattle.net_types.specs.declared.table.RouteRow.{RouteRow}
use Rattle.chip_core.specs.Slots.{Groups, Hosts, host_entries}
use Rattle.chip_core.specs.Tables.{AreSlots}
use Rattle.chip_core.proofs.Outcomes.{never, refused}
use Rattle.chip_core.proofs.shape.are_in_order.Goals as goal
use Rattle.sorted_table.specs.Rows.{IsSorted}

pub returns-then-not-is_sorted : goal.returns-then-not-is_sorted
returns-then-not-is_sorted c = ((λ h. never h), (λ order. absurd (refused c.is_sorted.result c.is_sorted.ensures.1 c.if-not-is_sorted.true (subst (λ (l : List (L2Key × L2Row)). IsSorted l2_cmp c.args.caps.l2 l) (sym c.as_slice.ensures) order.l2))))

pub returns-then-not-is_sorted-2 : goal.returns-then-not-is_sorted-2
returns-then-not-is_sorted-2 c =
    let tables = c.args.tables.now in
    let high = c.args.caps.route in
    ((λ h. never h), (λ order. absurd (refused c.is_sorted-2.result c.is_sorted-2.ensures.1 c.if-not-is_sorted-2.true (subst (λ (l : List (RouteKey × RouteRow)). IsSorted (route.cmp-value).it high l) (sym c.as_slice-2.ensures) (subst (λ (cmp : RouteKey → RouteKey → Ordering). IsSorted cmp high tables.route) (sym route-derived) order.route)))))

pub returns : goal.returns
returns c = (
  (λ h. record {
    l2 = subst (λ (l : List (L2Key × L2Row)). IsSorted l2_cmp c.args.caps.l2 l) c.as_slice.ensures (c.is_sorted.ensures.0 c.if-not-is_sorted.false);
    host = subst (λ (l : Hosts). AreSlots c.args.caps.host (host_entries l)) c.as_slice-3.ensures (c.are_host_slots.ensures.0 c.if-not-are_host_slots.false);
    group = subst (λ (l : Groups). AreSlots c.args.caps.group l) c.as_slice-4.ensures (c.are_slots.ensures.0 h);
    route = subst (λ (cmp : RouteKey → RouteKey → Ordering). IsSorted cmp c.args.caps.route c.args.tables.now.route) route-derived (subst (λ (l : List (RouteKey × RouteRow)). IsSorted (route.cmp-value).it c.args.caps.route l) c.as_slice-2.ensures (c.is_sorted-2.ensures.0 c.if-not-is_sorted-2.false));
  }),
  (λ order. c.are_slots.ensures.1 (subst (λ (l : Groups). AreSlots c.args.caps.group l) (sym c.as_slice-4.ensures) order.group)),
)
