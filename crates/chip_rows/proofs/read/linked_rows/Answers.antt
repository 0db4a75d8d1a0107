use Rattle.std.proofs.Common.{List, subst, sym}
use Rattle.std.specs.declared.cmp.Ordering.{Ordering}
use Rattle.keyed.specs.Keyed.{Ascends}
use Rattle.net_types.specs.Derived.{group-derived}
use Rattle.net_types.specs.KeyOrder.{group_order}
use Rattle.keyed.specs.Keyed.{IsKeyOrder}
use Rattle.net_types.specs.declared.table.HostKey.{HostKey}
use Rattle.chip_rows.specs.BySlot.{AreApart}
use Rattle.chip_rows.proofs.RowLaws.{group-gathered, groups-ascend, groups-read, hosts-ascend, hosts-read, routes-read, rows-apart, rows-read}
use Rattle.chip_rows.proofs.read.linked_rows.Goals as goal

pub of-requires : goal.of-requires
of-requires c =
    let raw = c.args.tables.now in
    hosts-ascend raw c.requires.consistent c.as_slice-2.result.now (hosts-read raw c.as_slice-2.result.now c.in_ok-hosts.hosts.items c.as_slice.result.now c.as_slice-2.ensures.value c.in_ok-hosts.ensures c.as_slice.ensures)

pub route_rows-requires-clause-hosts : goal.route_rows-requires-clause-hosts
route_rows-requires-clause-hosts c =
    let raw = c.args.tables.now in
    hosts-ascend raw c.requires.consistent c.as_slice-4.result.now (hosts-read raw c.as_slice-4.result.now c.in_ok-hosts.hosts.items c.as_slice.result.now c.as_slice-4.ensures.value c.in_ok-hosts.ensures c.as_slice.ensures)

pub route_rows-requires-clause-groups : goal.route_rows-requires-clause-groups
route_rows-requires-clause-groups c =
    let raw = c.args.tables.now in
    let hosts = hosts-read raw c.as_slice-2.result.now c.in_ok-hosts.hosts.items c.as_slice.result.now c.as_slice-2.ensures.value c.in_ok-hosts.ensures c.as_slice.ensures in
    groups-ascend raw c.requires.consistent c.as_slice-5.result.now (groups-read raw c.as_slice-5.result.now c.in_ok-groups.groups.by_slot.items c.as_slice-2.result.now c.as_slice-3.result.now c.as_slice-5.ensures.value c.in_ok-groups.ensures.by_slot hosts c.as_slice-3.ensures)

pub by_key-requires-clause-order : goal.by_key-requires-clause-order
by_key-requires-clause-order c = subst (λ (cmp : List HostKey → List HostKey → Ordering). IsKeyOrder cmp) (sym group-derived) group_order

pub by_key-requires-clause-apart : goal.by_key-requires-clause-apart
by_key-requires-clause-apart c =
    let raw = c.args.tables.now in
    let rows = c.in_ok-groups.groups.rows.items in
    let hosts = hosts-read raw c.as_slice-2.result.now c.in_ok-hosts.hosts.items c.as_slice.result.now c.as_slice-2.ensures.value c.in_ok-hosts.ensures c.as_slice.ensures in
    subst (λ (cmp : List HostKey → List HostKey → Ordering). AreApart cmp rows) (sym group-derived)
    (rows-apart raw c.requires.consistent rows (rows-read raw rows c.as_slice-2.result.now c.as_slice-3.result.now c.in_ok-groups.ensures.rows hosts c.as_slice-3.ensures))

pub returns-clause-group : goal.returns-clause-group
returns-clause-group c =
    let raw = c.args.tables.now in
    let rows = c.in_ok-groups.groups.rows.items in
    let hosts = hosts-read raw c.as_slice-2.result.now c.in_ok-hosts.hosts.items c.as_slice.result.now c.as_slice-2.ensures.value c.in_ok-hosts.ensures c.as_slice.ensures in
    group-gathered raw c.requires.consistent rows c.by_key.result.items
    (rows-read raw rows c.as_slice-2.result.now c.as_slice-3.result.now c.in_ok-groups.ensures.rows hosts c.as_slice-3.ensures) c.by_key.ensures.same
    (subst (λ (cmp : List HostKey → List HostKey → Ordering). Ascends cmp c.by_key.result.items) group-derived c.by_key.ensures.ascends)

pub returns-clause-route : goal.returns-clause-route
returns-clause-route c =
    let raw = c.args.tables.now in
    let hosts = hosts-read raw c.as_slice-2.result.now c.in_ok-hosts.hosts.items c.as_slice.result.now c.as_slice-2.ensures.value c.in_ok-hosts.ensures c.as_slice.ensures in
    let groups = groups-read raw c.as_slice-5.result.now c.in_ok-groups.groups.by_slot.items c.as_slice-2.result.now c.as_slice-3.result.now c.as_slice-5.ensures.value c.in_ok-groups.ensures.by_slot hosts c.as_slice-3.ensures in
    let shown = hosts-read raw c.as_slice-4.result.now c.in_ok-hosts.hosts.items c.as_slice.result.now c.as_slice-4.ensures.value c.in_ok-hosts.ensures c.as_slice.ensures in
    routes-read raw c.in_ok-route.route.items c.as_slice-4.result.now c.as_slice-5.result.now c.as_slice-6.result.now c.in_ok-route.ensures shown groups c.as_slice-6.ensures
