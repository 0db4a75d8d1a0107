use Rattle.std.proofs.Common.{◌≡◌, List, sym, ap, subst}
use Rattle.std.specs.Cmp.Lexicographic.{slice_cmp}
use Rattle.std.specs.declared.cmp.Ordering.{Ordering}
use Rattle.keyed.specs.Keyed.{Ascends}
use Rattle.keyed.specs.Places.{IsPlace}
use Rattle.net_types.specs.Derived.{host-derived}
use Rattle.net_types.specs.KeyOrder.{group_cmp, group_order}
use Rattle.net_types.specs.contracts.table.HostKeyOrd.TheImpl as host
use Rattle.net_types.specs.declared.table.HostKey.{HostKey}
use Rattle.report_text.proofs.PlaceLaws.{place_found, place_gap}
use Rattle.report_text.proofs.tables.place_of_group.Goals as goal

-- the derived order of lists of hosts is that of the specification
derived : slice_cmp (host.cmp-value).it ≡ group_cmp
derived = ap (λ (cmp : HostKey → HostKey → Ordering). slice_cmp cmp) host-derived

pub place_of-requires : goal.place_of-requires
place_of-requires c = subst (λ (cmp : List HostKey → List HostKey → Ordering). Ascends cmp c.args.groups.now) (sym derived) c.requires

pub returns-in-Ok : goal.returns-in-Ok
returns-in-Ok c =
    let place = subst (λ (cmp : List HostKey → List HostKey → Ordering). IsPlace cmp c.args.hosts.now c.args.groups.now c.place_of.result) derived c.place_of.ensures.place in
    place_found group_cmp group_order c.args.hosts.now c.args.groups.now c.place_of.result c.in-Ok.place c.requires place c.in-Ok.is

pub returns-in-Err : goal.returns-in-Err
returns-in-Err c =
    let place = subst (λ (cmp : List HostKey → List HostKey → Ordering). IsPlace cmp c.args.hosts.now c.args.groups.now c.place_of.result) derived c.place_of.ensures.place in
    place_gap group_cmp group_order c.args.hosts.now c.args.groups.now c.place_of.result c.in-Err.place c.requires place c.in-Err.is
