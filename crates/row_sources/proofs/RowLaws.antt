-- What each walk gathers, and what it begins with.
use Rattle.std.proofs.Common.{◌≡◌, ℕ, Some, List, [], ◌∷◌, ◌++◌, All, map, refl, sym, ap, ◌∙◌, subst, append_assoc}
use Rattle.std.specs.List.{flat_map}
use Rattle.std.specs.Cmp.Lexicographic.{slice_cmp}
use Rattle.std.specs.declared.cmp.Ordering.{Ordering}
use Rattle.keyed.specs.Keyed.{IsKeyOrder, with_values}
use Rattle.net_types.specs.Derived.{group-derived}
use Rattle.net_types.specs.contracts.table.HostKeyOrd.TheImpl as host_ord
use Rattle.keyed.specs.Sets.{set_of}
use Rattle.net_types.specs.declared.table.HopTarget.{HopTarget}
use Rattle.net_types.specs.declared.table.HostKey.{HostKey}
use Rattle.net_types.specs.declared.table.L2Key.{L2Key}
use Rattle.net_types.specs.declared.table.L2Row.{L2Row}
use Rattle.net_types.specs.declared.table.RouteKey.{RouteKey}
use Rattle.net_types.specs.KeyOrder.{group_cmp, group_order}
use Rattle.node_core.specs.Node.{NodeView}
use Rattle.node_map.specs.Map.{MapView}
use Rattle.node_map.specs.TreeNode.{Entries}
use Rattle.state_keys.specs.PartKeys.{IsFibNumber, IsStationNumber, fib_of, station_of}
use Rattle.state_scan.specs.Listed.{listed}
use Rattle.switch_model.specs.declared.key.NeighborKey.{NeighborKey}
use Rattle.switch_model.specs.declared.record.FibEntry.{FibEntry}
use Rattle.switch_model.specs.declared.record.MacRec.{MacRec}
use Rattle.switch_model.specs.declared.record.NeighborRec.{NeighborRec}
use Rattle.switch_model.specs.Rows.{forward_hosts, group_of_hosts, groups, host_of_neighbor, l2_row, live, rows, target_of_entry}
use Rattle.switch_state.specs.Plain.{plain}
use Rattle.switch_state.specs.StateView.{StateView}
use Rattle.state_laws.specs.Fib.{HasFib}
use Rattle.row_sources.proofs.GatherLaws.{IsReading, listed_all, listed_values, read_first, single}
use Rattle.row_sources.proofs.SetLaws.{entries_one_by_one}

-- the row of a station
abbrev pub station_entry : StateView → ℕ × NodeView MacRec → List (L2Key × L2Row)
station_entry s e = (station_of e.0, l2_row (plain s) e.1.value) ∷ []

pub stations_first : (s : StateView) (got : List (L2Key × L2Row)) (met : Entries MacRec) (macs : MapView MacRec) → got ≡ [] → met ≡ macs.entries → macs ≡ s.macs → All (λ e. IsStationNumber e.0) macs.entries → IsReading IsStationNumber (station_entry s) got met (with_values (l2_row (plain s)) (plain s).macs)
stations_first s got met macs none is same numbers = read_first (station_entry s) IsStationNumber [] got met macs.entries (with_values (l2_row (plain s)) (plain s).macs) none is numbers
    (listed_values station_of (l2_row (plain s)) macs.entries ∙ ap (λ (m : MapView MacRec). with_values (l2_row (plain s)) (listed station_of m.entries)) same)

-- the host of a neighbour
abbrev pub near_host : (ℕ → NeighborKey) → ℕ × NodeView NeighborRec → List HostKey
near_host of e = host_of_neighbor (of e.0) ∷ []

pub hosts_first : (of : ℕ → NeighborKey) (Is : ℕ → Type 0) (before : List HostKey) (met all : Entries NeighborRec) → met ≡ all → All (λ e. Is e.0) all → IsReading Is (near_host of) before met (before ++ map (λ e. host_of_neighbor (of e.0)) all)
hosts_first of Is before met all is numbers = read_first (near_host of) Is before before met all (before ++ map (λ e. host_of_neighbor (of e.0)) all) refl is numbers (ap (λ (l : List HostKey). before ++ l) (single (λ (e : ℕ × NodeView NeighborRec). host_of_neighbor (of e.0)) all))

-- the hosts of an entry
abbrev pub far_hosts : ℕ × NodeView FibEntry → List HostKey
far_hosts e = forward_hosts e.1.value

-- the group of an entry
abbrev pub entry_group : ℕ × NodeView FibEntry → List (List HostKey)
entry_group e = group_of_hosts (forward_hosts e.1.value)

-- the row of an entry
abbrev pub entry_row : ℕ × NodeView FibEntry → List (RouteKey × HopTarget)
entry_row e = (fib_of e.0, target_of_entry e.1.value) ∷ []

pub routes_first : (got : List (RouteKey × HopTarget)) (met all : Entries FibEntry) → got ≡ [] → met ≡ all → All (λ e. IsFibNumber e.0) all → IsReading IsFibNumber entry_row got met (map (λ e. (fib_of e.0, target_of_entry e.1.value)) all)
routes_first got met all none is numbers = read_first entry_row IsFibNumber [] got met all (map (λ e. (fib_of e.0, target_of_entry e.1.value)) all) none is numbers (single (λ (e : ℕ × NodeView FibEntry). (fib_of e.0, target_of_entry e.1.value)) all)

-- the rows of the route table
pub routes_are : (s : StateView) (is : HasFib s) (map_of : MapView FibEntry) → map_of ≡ s.fibs → map (λ e. (fib_of e.0, target_of_entry e.1.value)) map_of.entries ≡ (rows (plain s)).route
routes_are s is map_of same =
    sym (single (λ (e : ℕ × NodeView FibEntry). (fib_of e.0, target_of_entry e.1.value)) map_of.entries)
    ∙ listed_values fib_of target_of_entry map_of.entries
    ∙ ap (λ (m : MapView FibEntry). with_values target_of_entry (listed fib_of m.entries)) same
    ∙ ap (with_values target_of_entry) is.fib

-- the rows of the group table
groups_are : (s : StateView) (is : HasFib s) (map_of : MapView FibEntry) (keys : List (List HostKey)) → map_of ≡ s.fibs → keys ≡ flat_map entry_group map_of.entries → keys ≡ groups (plain s)
groups_are s is map_of keys same made =
    made
    ∙ listed_all fib_of (λ (entry : FibEntry). group_of_hosts (forward_hosts entry)) map_of.entries
    ∙ ap (λ (m : MapView FibEntry). flat_map (λ e. group_of_hosts (forward_hosts e.1)) (listed fib_of m.entries)) same
    ∙ ap (λ (l : List (RouteKey × FibEntry)). flat_map (λ e. group_of_hosts (forward_hosts e.1)) l) is.fib

pub group_rows_are : (s : StateView) (is : HasFib s) (map_of : MapView FibEntry) (derived : List HostKey → List HostKey → Ordering) → derived ≡ group_cmp → (keys set : List (List HostKey)) → map_of ≡ s.fibs → keys ≡ flat_map entry_group map_of.entries → set ≡ set_of derived keys → map (λ key. (key, map (live (plain s)) key)) set ≡ (rows (plain s)).group
group_rows_are s is map_of derived one keys set same met distinct =
    ap (λ (l : List (List HostKey)). map (λ key. (key, map (live (plain s)) key)) l) (distinct ∙ ap (λ (cmp : List HostKey → List HostKey → Ordering). set_of cmp keys) one ∙ ap (set_of group_cmp) (groups_are s is map_of keys same met))
    ∙ sym (single (λ (key : List HostKey). (key, map (live (plain s)) key)) (set_of group_cmp (groups (plain s))))
    ∙ entries_one_by_one group_cmp group_order (λ (members : List HostKey). Some (map (live (plain s)) members)) (groups (plain s))

pub group_order-derived : IsKeyOrder (slice_cmp (host_ord.cmp-value).it)
group_order-derived = subst IsKeyOrder (sym group-derived) group_order

-- a turn over owned keys
pub turned : {A B : Type 0} (f : A → B) (got after : List B) (key : A) (met left : List A) (whole : List B) → met ≡ key ∷ left → after ≡ got ++ f key ∷ [] → got ++ map f met ≡ whole → after ++ map f left ≡ whole
turned {A} {B} f got after key met left whole first more is = ap (λ (l : List B). l ++ map f left) more ∙ append_assoc got (f key ∷ []) (map f left) ∙ ap (λ (l : List A). got ++ map f l) (sym first) ∙ is
