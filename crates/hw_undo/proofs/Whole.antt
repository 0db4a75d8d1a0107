-- A commit as a whole: closed rows between its phases, and the first table that is too small.
use Rattle.std.proofs.Common.{◌≡◌, ◌≤◌, ◌<◌, ◌*◌, List, None, Some, IsSome, length, get_or, refl, ap, subst, arith}
use Rattle.std.proofs.lemmas.Bool.{le-ltb, lt-ltb}
use Rattle.keyed.specs.Keyed.{at}
use Rattle.net_types.specs.KeyOrder.{l2_cmp, l2_order, group_cmp, group_order, host_cmp, host_order, route_cmp, route_order}
use Rattle.net_types.specs.Rows.{Rows}
use Rattle.net_types.specs.declared.table.Caps.{Caps}
use Rattle.net_types.specs.declared.table.HopTarget.{HopTarget}
use Rattle.net_types.specs.declared.table.HopTarget.TheVariants.{Host as HopHost, Group as HopGroup, ToCpu as HopCpu, Discard as HopDiscard}
use Rattle.net_types.specs.declared.table.L2Key.{L2Key}
use Rattle.net_types.specs.declared.table.L2Row.{L2Row}
use Rattle.net_types.specs.declared.table.RouteKey.{RouteKey}
use Rattle.net_types.specs.declared.table.Table.TheVariants.{L2, Host, Group, Route}
use Rattle.net_types.specs.declared.table.Tables.{Tables}
use Rattle.chip_core.specs.Changes.{AreOldRows, changed_rows, removes, writes_of}
use Rattle.net_types.specs.Closed.{IsClosed, IsTargetKnown}
use Rattle.chip_core.specs.Chip.{IsChip, view_of}
use Rattle.chip_core.specs.ChipLaws.{view-within}
use Rattle.chip_core.specs.declared.changes.RowChanges.{RowChanges}
use Rattle.hw_undo.specs.Counts.{differing, writes_made}
use Rattle.net_types.specs.Capacity.{over}
use Rattle.hw_undo.specs.Phases.{AreAscending, AreReadyRows, cuts, remaining, with_new}
use Rattle.hw_undo.proofs.ChangeLaws.{there-removes}
use Rattle.hw_undo.proofs.Leads.{closed-more_hosts}
use Rattle.chip_core.specs.ListLaws.{some, some-value}
use Rattle.hw_undo.proofs.PhaseLaws.{adds-cuts, after-cuts, before-cuts, gone-cuts, kept-adds, kept-removes, ready-removes, route-writes, table-writes, there-adds}
use Rattle.net_types.specs.Differ.{AscendRows}

module _ (changes : RowChanges) (rows : Rows) (ascending : AreAscending changes) (sorted : AscendRows rows) where
  -- the rows that remain once the deletions are made, with any l2 table
  abbrev pub left : List (L2Key × L2Row) → Rows
  left l2 = record { l2 = l2; host = removes host_cmp changes.host rows.host; group = removes group_cmp changes.group rows.group; route = cuts route_cmp changes.route rows.route }

  kept-target : (l2 : List (L2Key × L2Row)) (target : HopTarget) → IsTargetKnown rows target → IsTargetKnown (changed_rows changes rows) target → IsTargetKnown (left l2) target
  kept-target l2 (HopHost key) before after = kept-removes host_cmp host_order key changes.host rows.host ascending.host sorted.host before after
  kept-target l2 (HopGroup keys) before after = kept-removes group_cmp group_order keys changes.group rows.group ascending.group sorted.group before after
  kept-target l2 HopCpu before after = tt
  kept-target l2 HopDiscard before after = tt

  -- they are closed, as the rows before and after are
  pub closed-left : (l2 : List (L2Key × L2Row)) → IsClosed rows → IsClosed (changed_rows changes rows) → IsClosed (left l2)
  closed-left l2 before after = record {
    group = λ keys marks there i d lt.
        let stays : IsSome (at group_cmp keys (removes group_cmp changes.group rows.group)) = some _ marks there in
        let marks_before = some-value _ (there-removes group_cmp group_order keys changes.group rows.group sorted.group stays) in
        let marks_after = some-value _ (there-adds group_cmp group_order keys changes.group (removes group_cmp changes.group rows.group) stays) in
        kept-removes host_cmp host_order (get_or keys i d) changes.host rows.host ascending.host sorted.host
        (before.group keys marks_before.0 marks_before.1 i d lt)
        (after.group keys marks_after.0 marks_after.1 i d lt);
    route = record {
      each = λ k target there.
          kept-target l2 target
          (before.route.each k target (before-cuts route_cmp route_order k target changes.route rows.route ascending.route sorted.route there))
          (after.route.each k target (after-cuts route_cmp route_order k target changes.route rows.route ascending.route sorted.route there));
    };
  }

  -- and so are those with all hosts still there
  pub closed-with_hosts : (l2 : List (L2Key × L2Row)) → IsClosed rows → IsClosed (changed_rows changes rows) → IsClosed (record (left l2) { host = rows.host })
  closed-with_hosts l2 before after = closed-more_hosts (left l2) rows.host (λ key there. there-removes host_cmp host_order key changes.host rows.host sorted.host there) (closed-left l2 before after)

  -- what the deletions leave is ready for the new rows
  pub ready-left : AreOldRows changes rows → AreReadyRows changes (remaining changes rows)
  ready-left old = record {
    l2 = ready-removes l2_cmp l2_order changes.l2 rows.l2 ascending.l2 sorted.l2 old.l2;
    host = ready-removes host_cmp host_order changes.host rows.host ascending.host sorted.host old.host;
    group = ready-removes group_cmp group_order changes.group rows.group ascending.group sorted.group old.group;
    route = gone-cuts route_cmp route_order changes.route rows.route ascending.route sorted.route;
  }

  -- and with them makes the changed rows
  pub whole-left : with_new changes (remaining changes rows) ≡ changed_rows changes rows
  whole-left = ap (λ (l : List (RouteKey × HopTarget)). record (changed_rows changes rows) { route = l }) (adds-cuts route_cmp route_order changes.route rows.route ascending.route sorted.route)

  -- before the new routes come, the rows with all else are closed
  pub closed-without_new_routes : AreReadyRows changes rows → IsClosed (with_new changes rows) → IsClosed (record (with_new changes rows) { route = rows.route })
  closed-without_new_routes ready closed = record {
    group = closed.group;
    route = record { each = λ k target there. known target (closed.route.each k target (kept-adds route_cmp route_order k target changes.route rows.route ascending.route ready.route there)) };
  }
    where
      known : (target : HopTarget) → IsTargetKnown (with_new changes rows) target → IsTargetKnown (record (with_new changes rows) { route = rows.route }) target
      known (HopHost key) there = there
      known (HopGroup keys) there = there
      known HopCpu there = tt
      known HopDiscard there = tt

-- what a chip holds fits it, under the capacities that it has kept
pub record IsWithinView (caps : Caps) (rows : Rows) : Type 0 where
  pub l2 : length rows.l2 ≤ caps.l2
  pub host : length rows.host ≤ caps.host
  pub group : length rows.group ≤ caps.group
  pub route : length rows.route ≤ caps.route

pub within-view : (now caps : Caps) (raw : Tables) → IsChip now raw → now ≡ caps → IsWithinView caps (view_of raw)
within-view now caps raw chip same =
    let within = view-within now raw chip in
    subst (λ (c : Caps). IsWithinView c (view_of raw)) same (record { l2 = within.l2; host = within.host; group = within.group; route = within.route })

-- the writes of a commit
pub record AreFewWrites (changes : RowChanges) : Type 0 where
  pub listed : writes_made changes ≤ writes_of changes
  pub rows : writes_made changes ≤ 2 * differing changes

pub few-writes : (changes : RowChanges) → AreFewWrites changes
few-writes changes = record {
  listed = omega (arith, table-writes changes.l2, table-writes changes.host, table-writes changes.group, route-writes changes.route);
  rows = omega (arith, table-writes changes.l2, table-writes changes.host, table-writes changes.group, route-writes changes.route);
}
