-- The chip in memory keeps the rules of a chip's tables.
use Rattle.std.proofs.Common.{Option, IsSome, sym, subst, arith}
use Rattle.std.specs.Ordering.{nat_cmp}
use Rattle.std.specs.declared.cmp.Ordering.{Ordering}
use Rattle.keyed.specs.Keyed.{Ascends}
use Rattle.keyed.specs.Named.{AreDistinct}
use Rattle.net_types.specs.Derived.{host-derived, route-derived}
use Rattle.net_types.specs.Groups.{group_key_cmp, group_key_of}
use Rattle.net_types.specs.KeyOrder.{l2_cmp, host_cmp}
use Rattle.net_types.specs.contracts.table.HostKeyOrd.TheImpl as host
use Rattle.net_types.specs.contracts.table.RouteKeyOrd.TheImpl as route
use Rattle.net_types.specs.declared.table.Caps.{Caps}
use Rattle.net_types.specs.declared.table.HostKey.{HostKey}
use Rattle.net_types.specs.declared.table.HostRow.{HostRow}
use Rattle.net_types.specs.declared.table.RouteKey.{RouteKey}
use Rattle.chip_core.specs.Chip.{IsChip, AreLinked}
use Rattle.chip_core.specs.Sim.{Contents, tables_of}
use Rattle.chip_core.specs.Tables.{IsSlotted}
use Rattle.sorted_table.specs.Rows.{IsSorted}
use Rattle.chip_core.specs.SlotsLaws.{Entries, entries-rows, host_at-rows, length-rows}

module _ (caps : Caps) (c : Contents) where
  pub is_chip : IsSorted l2_cmp caps.l2 c.l2 → IsSlotted (host.cmp-value).it (λ h. h.0) caps.host c.host → IsSlotted group_key_cmp group_key_of caps.group c.group → IsSorted (route.cmp-value).it caps.route c.route → AreLinked (tables_of c) → IsChip caps (tables_of c)
  is_chip by_l2 by_host by_group by_route linked = record {
    rows = record {
      keys = record {
        l2 = by_l2.ascends;
        host = subst (λ (l : Entries). Ascends nat_cmp l) (sym (entries-rows c.host)) by_host.ascends;
        group = by_group.ascends;
        route = subst (λ (cmp : RouteKey → RouteKey → Ordering). Ascends cmp c.route) route-derived by_route.ascends;
        host_keys = subst (λ (l : Entries). AreDistinct host_cmp (λ h. h.0) l) (sym (entries-rows c.host)) (subst (λ (cmp : HostKey → HostKey → Ordering). AreDistinct cmp (λ (h : HostKey × HostRow). h.0) c.host) host-derived by_host.distinct);
        group_keys = by_group.distinct;
      };
      links = linked;
    };
    within = record {
      l2 = by_l2.fits;
      host = omega (arith, length-rows c.host, by_host.fits);
      group = by_group.fits;
      route = by_route.fits;
      host_slots = λ slot there. by_host.below slot (subst (λ (o : Option (HostKey × HostRow)). IsSome o) (host_at-rows slot c.host) there);
      group_slots = by_group.below;
    };
  }
