-- The steps of a commit, table by table, over the lists that the changes give.
use Rattle.std.proofs.Common.{◌≡◌, ◌<◌, Bool, true, false, List, [], ◌∷◌, None, Some, Result, Ok, Err, length, sym, ap, ◌∙◌, subst, arith}
use Rattle.std.specs.Result.{OnErr, OnOk, is_err}
use Rattle.std.specs.declared.cmp.Ordering.{Ordering}
use Rattle.net_types.specs.Capacity.{Filling, over}
use Rattle.net_types.specs.CapacityLaws.{first-over, none-over}
use Rattle.net_types.specs.Derived.{host-derived, route-derived}
use Rattle.net_types.specs.KeyOrder.{l2_cmp, group_cmp, host_cmp, route_cmp}
use Rattle.net_types.specs.Rows.{Rows}
use Rattle.net_types.specs.contracts.table.HostKeyOrd.TheImpl as host
use Rattle.net_types.specs.contracts.table.RouteKeyOrd.TheImpl as route
use Rattle.net_types.specs.declared.table.Caps.{Caps}
use Rattle.net_types.specs.declared.table.HopTarget.{HopTarget}
use Rattle.net_types.specs.declared.table.HostKey.{HostKey}
use Rattle.net_types.specs.declared.table.HostRow.{HostRow}
use Rattle.net_types.specs.declared.table.L2Key.{L2Key}
use Rattle.net_types.specs.declared.table.L2Row.{L2Row}
use Rattle.net_types.specs.declared.table.RouteKey.{RouteKey}
use Rattle.net_types.specs.declared.table.Table.TheVariants.{L2, Host, Group, Route}
use Rattle.chip_core.specs.ChangeLists.{Change, IsAscending}
use Rattle.chip_core.specs.Changes.{AreOld, adds, changed_rows, removes}
use Rattle.net_types.specs.Closed.{IsClosed}
use Rattle.chip_core.specs.declared.changes.RowChanges.{RowChanges}
use Rattle.hw_undo.specs.Phases.{AreAscending, AreGone, AreReady, AreReadyRows, cuts, remaining, with_new}
use Rattle.net_types.specs.Differ.{AscendRows}
use Rattle.hw_undo.proofs.Whole.{IsWithinView, closed-left, closed-with_hosts, closed-without_new_routes}

abbrev L2s : Type 0
L2s = List (Change L2Key L2Row)

abbrev Hosts : Type 0
Hosts = List (Change HostKey HostRow)

abbrev Groups : Type 0
Groups = List (Change (List HostKey) (List Bool))

abbrev Routes : Type 0
Routes = List (Change RouteKey HopTarget)

-- what is said of a list is said of one that is the same
pub old-as : {K V : Type 0} (cmp : K → K → Ordering) (xs ys : List (Change K V)) (l m : List (K × V)) → xs ≡ ys → l ≡ m → AreOld cmp ys m → AreOld cmp xs l
old-as {K} {V} cmp xs ys l m same there old = subst (λ (x : List (Change K V)). AreOld cmp x l) (sym same) (subst (λ (x : List (K × V)). AreOld cmp ys x) (sym there) old)

pub ready-as : {K V : Type 0} (cmp : K → K → Ordering) (xs ys : List (Change K V)) (l m : List (K × V)) → xs ≡ ys → l ≡ m → AreReady cmp ys m → AreReady cmp xs l
ready-as {K} {V} cmp xs ys l m same there ready = subst (λ (x : List (Change K V)). AreReady cmp x l) (sym same) (subst (λ (x : List (K × V)). AreReady cmp ys x) (sym there) ready)

pub gone-as : {K V : Type 0} (cmp : K → K → Ordering) (xs ys : List (Change K V)) (l m : List (K × V)) → xs ≡ ys → l ≡ m → AreGone cmp ys m → AreGone cmp xs l
gone-as {K} {V} cmp xs ys l m same there gone = subst (λ (x : List (Change K V)). AreGone cmp x l) (sym same) (subst (λ (x : List (K × V)). AreGone cmp ys x) (sym there) gone)

-- keys ascend by the derived order, which is that of the specification
pub hosts-ascend : (xs : Hosts) → IsAscending (host.cmp-value).it xs → IsAscending host_cmp xs
hosts-ascend xs ascending = subst (λ (cmp : HostKey → HostKey → Ordering). IsAscending cmp xs) host-derived ascending

pub routes-ascend : (xs : Routes) → IsAscending (route.cmp-value).it xs → IsAscending route_cmp xs
routes-ascend xs ascending = subst (λ (cmp : RouteKey → RouteKey → Ordering). IsAscending cmp xs) route-derived ascending

module _ (changes : RowChanges) (l2s : L2s) (hosts : Hosts) (groups : Groups) (routes : Routes) (l2_is : l2s ≡ changes.l2) (host_is : hosts ≡ changes.host) (group_is : groups ≡ changes.group) (route_is : routes ≡ changes.route) where
  pub all-ascend : IsAscending l2_cmp l2s → IsAscending host_cmp hosts → IsAscending group_cmp groups → IsAscending route_cmp routes → AreAscending changes
  all-ascend l2 host group route = record {
    l2 = subst (λ (x : L2s). IsAscending l2_cmp x) l2_is l2;
    host = subst (λ (x : Hosts). IsAscending host_cmp x) host_is host;
    group = subst (λ (x : Groups). IsAscending group_cmp x) group_is group;
    route = subst (λ (x : Routes). IsAscending route_cmp x) route_is route;
  }

  module _ (rows without_routes without_groups without_hosts left : Rows) (first : without_routes ≡ record rows { route = cuts route_cmp routes rows.route }) where
    cut_routes : without_routes ≡ record rows { route = cuts route_cmp changes.route rows.route }
    cut_routes = first ∙ ap (λ (x : Routes). record rows { route = cuts route_cmp x rows.route }) route_is

    -- the groups' deletions lead to closed rows
    pub group-phase : AreAscending changes → AscendRows rows → IsClosed rows → IsClosed (changed_rows changes rows) → IsClosed (record without_routes { group = removes group_cmp groups without_routes.group })
    group-phase ascending sorted before after =
        let is : record without_routes { group = removes group_cmp groups without_routes.group } ≡ record rows { group = removes group_cmp changes.group rows.group; route = cuts route_cmp changes.route rows.route } =
        ap (λ (r : Rows). record r { group = removes group_cmp groups r.group }) cut_routes
        ∙ ap (λ (x : Groups). record rows { group = removes group_cmp x rows.group; route = cuts route_cmp changes.route rows.route }) group_is in
        subst IsClosed (sym is) (closed-with_hosts changes rows ascending sorted rows.l2 before after)

    module _ (second : without_groups ≡ record without_routes { group = removes group_cmp groups without_routes.group }) where
      cut_groups : without_groups ≡ record rows { group = removes group_cmp changes.group rows.group; route = cuts route_cmp changes.route rows.route }
      cut_groups = second
          ∙ ap (λ (r : Rows). record r { group = removes group_cmp groups r.group }) cut_routes
          ∙ ap (λ (x : Groups). record rows { group = removes group_cmp x rows.group; route = cuts route_cmp changes.route rows.route }) group_is

      -- and so do the hosts'
      pub host-phase : AreAscending changes → AscendRows rows → IsClosed rows → IsClosed (changed_rows changes rows) → IsClosed (record without_groups { host = removes host_cmp hosts without_groups.host })
      host-phase ascending sorted before after =
          let is : record without_groups { host = removes host_cmp hosts without_groups.host } ≡ record rows { host = removes host_cmp changes.host rows.host; group = removes group_cmp changes.group rows.group; route = cuts route_cmp changes.route rows.route } =
          ap (λ (r : Rows). record r { host = removes host_cmp hosts r.host }) cut_groups
          ∙ ap (λ (x : Hosts). record rows { host = removes host_cmp x rows.host; group = removes group_cmp changes.group rows.group; route = cuts route_cmp changes.route rows.route }) host_is in
          subst IsClosed (sym is) (closed-left changes rows ascending sorted rows.l2 before after)

      module _ (third : without_hosts ≡ record without_groups { host = removes host_cmp hosts without_groups.host }) where
        cut_hosts : without_hosts ≡ record rows { host = removes host_cmp changes.host rows.host; group = removes group_cmp changes.group rows.group; route = cuts route_cmp changes.route rows.route }
        cut_hosts = third
            ∙ ap (λ (r : Rows). record r { host = removes host_cmp hosts r.host }) cut_groups
            ∙ ap (λ (x : Hosts). record rows { host = removes host_cmp x rows.host; group = removes group_cmp changes.group rows.group; route = cuts route_cmp changes.route rows.route }) host_is

        -- the tables that a deletion comes to are still the old ones
        pub host-before : without_groups.host ≡ rows.host
        host-before = ap (λ (r : Rows). r.host) cut_groups

        pub l2-before : without_hosts.l2 ≡ rows.l2
        l2-before = ap (λ (r : Rows). r.l2) cut_hosts

        -- all deletions
        pub all-cut : left ≡ record without_hosts { l2 = removes l2_cmp l2s without_hosts.l2 } → left ≡ remaining changes rows
        all-cut fourth = fourth
            ∙ ap (λ (r : Rows). record r { l2 = removes l2_cmp l2s r.l2 }) cut_hosts
            ∙ ap (λ (x : L2s). record (remaining changes rows) { l2 = removes l2_cmp x rows.l2 }) l2_is

  module _ (rows with_l2 with_hosts with_groups whole : Rows) (first : with_l2 ≡ record rows { l2 = adds l2_cmp l2s rows.l2 }) where
    abbrev new : Rows
    new = with_new changes rows

    pub l2-added : with_l2 ≡ record rows { l2 = new.l2 }
    l2-added = first ∙ ap (λ (x : L2s). record rows { l2 = adds l2_cmp x rows.l2 }) l2_is

    module _ (second : with_hosts ≡ record with_l2 { host = adds host_cmp hosts with_l2.host }) where
      pub hosts-added : with_hosts ≡ record rows { l2 = new.l2; host = new.host }
      hosts-added = second
          ∙ ap (λ (r : Rows). record r { host = adds host_cmp hosts r.host }) l2-added
          ∙ ap (λ (x : Hosts). record rows { l2 = new.l2; host = adds host_cmp x rows.host }) host_is

      -- the hosts of new groups are there
      pub group-ahead : AreAscending changes → AscendRows rows → AreReadyRows changes rows → IsClosed new → IsClosed (record with_hosts { group = adds group_cmp groups with_hosts.group })
      group-ahead ascending sorted ready closed =
          let is : record with_hosts { group = adds group_cmp groups with_hosts.group } ≡ record new { route = rows.route } =
          ap (λ (r : Rows). record r { group = adds group_cmp groups r.group }) hosts-added
          ∙ ap (λ (x : Groups). record rows { l2 = new.l2; host = new.host; group = adds group_cmp x rows.group }) group_is in
          subst IsClosed (sym is) (closed-without_new_routes changes rows ascending sorted ready closed)

      module _ (third : with_groups ≡ record with_hosts { group = adds group_cmp groups with_hosts.group }) where
        pub groups-added : with_groups ≡ record rows { l2 = new.l2; host = new.host; group = new.group }
        groups-added = third
            ∙ ap (λ (r : Rows). record r { group = adds group_cmp groups r.group }) hosts-added
            ∙ ap (λ (x : Groups). record rows { l2 = new.l2; host = new.host; group = adds group_cmp x rows.group }) group_is

        routes_added : record with_groups { route = adds route_cmp routes with_groups.route } ≡ new
        routes_added =
            ap (λ (r : Rows). record r { route = adds route_cmp routes r.route }) groups-added
            ∙ ap (λ (x : Routes). record new { route = adds route_cmp x rows.route }) route_is

        -- and so is what new routes lead to
        pub route-ahead : IsClosed new → IsClosed (record with_groups { route = adds route_cmp routes with_groups.route })
        route-ahead closed = subst IsClosed (sym routes_added) closed

        pub all-added : whole ≡ record with_groups { route = adds route_cmp routes with_groups.route } → whole ≡ new
        all-added fourth = fourth ∙ routes_added

-- what is said of a result, where it is known which it is
pub ok_of : {A E P : Type 0} (r : Result A E) → is_err r ≡ false → OnOk r P → P
ok_of (Ok x) e p = p
ok_of (Err x) e p = absurd (cc)

pub err_of : {A E P : Type 0} (r : Result A E) → is_err r ≡ true → OnErr r P → P
err_of (Ok x) e p = absurd (cc)
err_of (Err x) e p = p

-- a table that has no room is the first that is too small, where the ones before it fit
module _ (caps : Caps) (new : Rows) where
  abbrev in_l2 : Filling
  in_l2 = record { table = L2; rows = length new.l2; room = caps.l2 }

  abbrev in_host : Filling
  in_host = record { table = Host; rows = length new.host; room = caps.host }

  abbrev in_group : Filling
  in_group = record { table = Group; rows = length new.group; room = caps.group }

  abbrev in_route : Filling
  in_route = record { table = Route; rows = length new.route; room = caps.route }

  pub full-l2 : (now : Caps) (l : List (L2Key × L2Row)) → now ≡ caps → l ≡ new.l2 → now.l2 < length l → over new caps ≡ Some L2
  full-l2 now l same is full = first-over [] in_l2 (in_host ∷ in_group ∷ in_route ∷ []) tt (omega (arith, full, ap (λ (c : Caps). c.l2) same, ap (length {A = L2Key × L2Row}) is))

  pub full-host : (now : Caps) (l : List (HostKey × HostRow)) (with_l2 : Rows) → now ≡ caps → l ≡ new.host → IsWithinView caps with_l2 → with_l2.l2 ≡ new.l2 → now.host < length l → over new caps ≡ Some Host
  full-host now l with_l2 same is within l2 full = first-over (in_l2 ∷ []) in_host (in_group ∷ in_route ∷ [])
      (omega (arith, within.l2, ap (length {A = L2Key × L2Row}) l2), tt)
      (omega (arith, full, ap (λ (c : Caps). c.host) same, ap (length {A = HostKey × HostRow}) is))

  pub full-group : (now : Caps) (l : List (List HostKey × List Bool)) (with_hosts : Rows) → now ≡ caps → l ≡ new.group → IsWithinView caps with_hosts → with_hosts.l2 ≡ new.l2 → with_hosts.host ≡ new.host → now.group < length l → over new caps ≡ Some Group
  full-group now l with_hosts same is within l2 hosts full = first-over (in_l2 ∷ in_host ∷ []) in_group (in_route ∷ [])
      (omega (arith, within.l2, ap (length {A = L2Key × L2Row}) l2), (omega (arith, within.host, ap (length {A = HostKey × HostRow}) hosts), tt))
      (omega (arith, full, ap (λ (c : Caps). c.group) same, ap (length {A = List HostKey × List Bool}) is))

  pub full-route : (now : Caps) (l : List (RouteKey × HopTarget)) (with_groups : Rows) → now ≡ caps → l ≡ new.route → IsWithinView caps with_groups → with_groups.l2 ≡ new.l2 → with_groups.host ≡ new.host → with_groups.group ≡ new.group → now.route < length l → over new caps ≡ Some Route
  full-route now l with_groups same is within l2 hosts groups full = first-over (in_l2 ∷ in_host ∷ in_group ∷ []) in_route []
      (omega (arith, within.l2, ap (length {A = L2Key × L2Row}) l2), (omega (arith, within.host, ap (length {A = HostKey × HostRow}) hosts), (omega (arith, within.group, ap (length {A = List HostKey × List Bool}) groups), tt)))
      (omega (arith, full, ap (λ (c : Caps). c.route) same, ap (length {A = RouteKey × HopTarget}) is))

  pub fits : (whole : Rows) → IsWithinView caps whole → whole ≡ new → over new caps ≡ None
  fits whole within is =
      let in_new : IsWithinView caps new = subst (IsWithinView caps) is within in
      none-over (in_l2 ∷ in_host ∷ in_group ∷ in_route ∷ []) (in_new.l2, (in_new.host, (in_new.group, (in_new.route, tt))))
