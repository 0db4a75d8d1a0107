use Rattle.std.proofs.Common.{List, subst, sym}
use Rattle.std.specs.List.Sorted.{IsPermutation}
use Rattle.std.specs.declared.cmp.Ordering.{Ordering}
use Rattle.keyed.specs.Keyed.{Ascends}
use Rattle.net_types.specs.Derived.{host-derived, host_order-derived}
use Rattle.net_types.specs.KeyOrder.{host_cmp}
use Rattle.net_types.specs.declared.table.HostKey.{HostKey}
use Rattle.net_types.specs.declared.table.HostRow.{HostRow}
use Rattle.chip_rows.specs.BySlot.{AreApart}
use Rattle.chip_rows.proofs.RowLaws.{host-apart, host-gathered}
use Rattle.chip_rows.proofs.hosts.host_rows.Goals as goal

pub by_key-requires-clause-order : goal.by_key-requires-clause-order
by_key-requires-clause-order c = host_order-derived

pub by_key-requires-clause-apart : goal.by_key-requires-clause-apart
by_key-requires-clause-apart c =
    let hosts = c.args.hosts.now in
    let apart = subst (λ (l : List (HostKey × HostRow)). AreApart host_cmp l) (sym c.in_ok-rows.ensures) (host-apart hosts c.requires) in
    subst (λ (cmp : HostKey → HostKey → Ordering). AreApart cmp c.in_ok-rows.rows.items) (sym host-derived) apart

pub returns : goal.returns
returns c =
    let hosts = c.args.hosts.now in
    host-gathered hosts c.by_key.result.items c.requires
    (subst (λ (l : List (HostKey × HostRow)). IsPermutation l c.by_key.result.items) c.in_ok-rows.ensures c.by_key.ensures.same)
    (subst (λ (cmp : HostKey → HostKey → Ordering). Ascends cmp c.by_key.result.items) host-derived c.by_key.ensures.ascends)
