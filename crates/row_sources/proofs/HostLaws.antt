-- The hosts of a state, gathered from its maps.
use Rattle.std.proofs.Common.{◌≡◌, ◌↔◌, ◌⊎◌, ℕ, Option, None, Some, List, [], ◌∷◌, ◌++◌, All, map, refl, sym, ap, ◌∙◌, subst, inl, inr}
use Rattle.std.proofs.lemmas.List.Elements.{Contains-append_left, Contains-append_right, Contains-append_cases}
use Rattle.std.specs.List.{Contains, flat_map}
use Rattle.std.specs.Option.{option_or}
use Rattle.std.specs.Ordering.{nat_cmp}
use Rattle.std.specs.declared.cmp.Ordering.{Ordering}
use Rattle.keyed.specs.EntryLaws.{contains_at, key_there}
use Rattle.keyed.specs.Keyed.{Ascends, IsKeyOrder, at}
use Rattle.keyed.specs.Members.{contains_map, map_contains}
use Rattle.keyed.specs.Sets.{set_of}
use Rattle.net_types.specs.KeyOrder.{host_cmp, host_order}
use Rattle.net_types.specs.declared.table.HostKey.{HostKey}
use Rattle.net_types.specs.declared.table.RouteKey.{RouteKey}
use Rattle.node_core.specs.Node.{NodeView}
use Rattle.node_map.specs.Map.{MapView}
use Rattle.node_map.specs.TreeNode.{Entries}
use Rattle.state_keys.specs.KeyLaws.{arp_numbering, ndp_numbering}
use Rattle.state_keys.specs.PartKeys.{IsArpNumber, IsNdpNumber, arp_of, fib_of, ndp_of}
use Rattle.state_scan.specs.Listed.{listed}
use Rattle.state_scan.specs.Together.{together}
use Rattle.state_scan.proofs.Joining.{ascends-together, at-together}
use Rattle.state_scan.proofs.Listing.{ascends-listed}
use Rattle.switch_model.specs.declared.key.NeighborKey.{NeighborKey}
use Rattle.switch_model.specs.declared.record.FibEntry.{FibEntry}
use Rattle.switch_model.specs.declared.record.NeighborRec.{NeighborRec}
use Rattle.switch_model.specs.Fib.{fibs}
use Rattle.switch_model.specs.PlainState.{PlainState, rib}
use Rattle.switch_model.specs.Rows.{forward_hosts, host_of_neighbor, host_row, hosts, rows}
use Rattle.switch_model.specs.StateKeys.{neighbor_cmp, neighbor_order}
use Rattle.switch_state.specs.Plain.{plain}
use Rattle.switch_state.specs.StateView.{StateView}
use Rattle.state_laws.specs.Fib.{HasFib}
use Rattle.row_sources.specs.Entry.{entry_of}
use Rattle.row_sources.proofs.GatherLaws.{listed_all}
use Rattle.row_sources.proofs.SetLaws.{entries_one_by_one, same_set}

or_some : {V : Type 0} (o p : Option V) (v : V) → option_or o p ≡ Some v → (o ≡ Some v) ⊎ (p ≡ Some v)
or_some None p v is = inr is
or_some (Some x) p v is = inl is

or_second : {V : Type 0} (o : Option V) (v : V) → (w : V) × (option_or o (Some v) ≡ Some w)
or_second None v = (v, refl)
or_second (Some x) v = (x, refl)

module _ {K V : Type 0} (cmp : K → K → Ordering) (order : IsKeyOrder cmp) where
  value_there : (k : K) (l : List (K × V)) → Ascends cmp l → Contains (map (λ e. e.0) l) k → (v : V) × (at cmp k l ≡ Some v)
  value_there k l asc has =
      let found = contains_map (λ (e : K × V). e.0) l k has in
      (found.0.1, subst (λ (x : K). at cmp x l ≡ Some found.0.1) found.2 (contains_at cmp order found.0 l asc found.1))

  -- the keys of two lists as one are the keys of each
  pub together_keys : (xs ys : List (K × V)) (k : K) → Ascends cmp xs → Ascends cmp ys → Contains (map (λ e. e.0) (together cmp xs ys)) k → Contains (map (λ e. e.0) xs) k ⊎ Contains (map (λ e. e.0) ys) k
  together_keys xs ys k asc bsc has =
      let found = value_there k (together cmp xs ys) (ascends-together cmp order xs ys bsc) has in
      elim (or_some (at cmp k xs) (at cmp k ys) found.0 (sym (at-together cmp order k xs ys asc) ∙ found.1)) [
        | inl first ↦ inl (key_there cmp order k found.0 xs first)
        | inr second ↦ inr (key_there cmp order k found.0 ys second)
      ]

  pub first_together : (xs ys : List (K × V)) (k : K) → Ascends cmp xs → Ascends cmp ys → Contains (map (λ e. e.0) xs) k → Contains (map (λ e. e.0) (together cmp xs ys)) k
  first_together xs ys k asc bsc has =
      let found = value_there k xs asc has in
      key_there cmp order k found.0 (together cmp xs ys) (at-together cmp order k xs ys asc ∙ ap (λ (o : Option V). option_or o (at cmp k ys)) found.1)

  pub second_together : (xs ys : List (K × V)) (k : K) → Ascends cmp xs → Ascends cmp ys → Contains (map (λ e. e.0) ys) k → Contains (map (λ e. e.0) (together cmp xs ys)) k
  second_together xs ys k asc bsc has =
      let found = value_there k ys bsc has in
      let some = or_second (at cmp k xs) found.0 in
      key_there cmp order k some.0 (together cmp xs ys) (at-together cmp order k xs ys asc ∙ ap (λ (o : Option V). option_or (at cmp k xs) o) found.1 ∙ some.1)

-- the hosts that neighbours of a map are
read_hosts : {T : Type 0} (of : ℕ → NeighborKey) (es : Entries T) → map (λ e. host_of_neighbor (of e.0)) es ≡ map host_of_neighbor (map (λ e. e.0) (listed of es))
read_hosts of [] = refl
read_hosts of (e ∷ es) = ap (λ (l : List HostKey). host_of_neighbor (of e.0) ∷ l) (read_hosts of es)

neighbor_hosts : (l : List (NeighborKey × NeighborRec)) → map (λ e. host_of_neighbor e.0) l ≡ map host_of_neighbor (map (λ e. e.0) l)
neighbor_hosts [] = refl
neighbor_hosts (e ∷ es) = ap (λ (l : List HostKey). host_of_neighbor e.0 ∷ l) (neighbor_hosts es)

abbrev arp_keys : StateView → List NeighborKey
arp_keys s = map (λ e. e.0) (listed arp_of s.arps.entries)

abbrev ndp_keys : StateView → List NeighborKey
ndp_keys s = map (λ e. e.0) (listed ndp_of s.ndps.entries)

-- the hosts as the walks over the three maps meet them
abbrev pub met_hosts : StateView → List HostKey
met_hosts s = (([] ++ map (λ e. host_of_neighbor (arp_of e.0)) s.arps.entries) ++ map (λ e. host_of_neighbor (ndp_of e.0)) s.ndps.entries) ++ flat_map (λ e. forward_hosts e.1.value) s.fibs.entries

module _ (s : StateView) (is : HasFib s) (arps : All (λ e. IsArpNumber e.0) s.arps.entries) (arps_ascend : Ascends nat_cmp s.arps.entries) (ndps : All (λ e. IsNdpNumber e.0) s.ndps.entries) (ndps_ascend : Ascends nat_cmp s.ndps.entries) where
  arp_asc : Ascends neighbor_cmp (listed arp_of s.arps.entries)
  arp_asc = ascends-listed arp_numbering s.arps.entries arps arps_ascend

  ndp_asc : Ascends neighbor_cmp (listed ndp_of s.ndps.entries)
  ndp_asc = ascends-listed ndp_numbering s.ndps.entries ndps ndps_ascend

  forwarded : flat_map (λ e. forward_hosts e.1.value) s.fibs.entries ≡ flat_map (λ (e : RouteKey × FibEntry). forward_hosts e.1) (fibs (rib (plain s)))
  forwarded = listed_all fib_of forward_hosts s.fibs.entries ∙ ap (λ (l : List (RouteKey × FibEntry)). flat_map (λ (e : RouteKey × FibEntry). forward_hosts e.1) l) is.fib

  neighbor_met : (host : HostKey) → Contains (map (λ (e : NeighborKey × NeighborRec). host_of_neighbor e.0) (plain s).neighbors) host → Contains (([] ++ map (λ e. host_of_neighbor (arp_of e.0)) s.arps.entries) ++ map (λ e. host_of_neighbor (ndp_of e.0)) s.ndps.entries) host
  neighbor_met host has =
      let found = contains_map host_of_neighbor (map (λ (e : NeighborKey × NeighborRec). e.0) (plain s).neighbors) host (subst (λ (l : List HostKey). Contains l host) (neighbor_hosts (plain s).neighbors) has) in
      let by_arp : List HostKey = map (λ (e : ℕ × NodeView NeighborRec). host_of_neighbor (arp_of e.0)) s.arps.entries in
      let by_ndp : List HostKey = map (λ (e : ℕ × NodeView NeighborRec). host_of_neighbor (ndp_of e.0)) s.ndps.entries in
      let P : List HostKey → Type 0 = λ l. Contains l host in
      elim (together_keys neighbor_cmp neighbor_order (listed arp_of s.arps.entries) (listed ndp_of s.ndps.entries) found.0 arp_asc ndp_asc found.1) [
        | inl arp ↦ Contains-append_left by_arp by_ndp host (subst P (sym (read_hosts arp_of s.arps.entries)) (subst (λ (h : HostKey). Contains (map host_of_neighbor (arp_keys s)) h) found.2 (map_contains host_of_neighbor (arp_keys s) found.0 arp)))
        | inr ndp ↦ Contains-append_right by_arp by_ndp host (subst P (sym (read_hosts ndp_of s.ndps.entries)) (subst (λ (h : HostKey). Contains (map host_of_neighbor (ndp_keys s)) h) found.2 (map_contains host_of_neighbor (ndp_keys s) found.0 ndp)))
      ]

  met_neighbor : (host : HostKey) → Contains (([] ++ map (λ e. host_of_neighbor (arp_of e.0)) s.arps.entries) ++ map (λ e. host_of_neighbor (ndp_of e.0)) s.ndps.entries) host → Contains (map (λ (e : NeighborKey × NeighborRec). host_of_neighbor e.0) (plain s).neighbors) host
  met_neighbor host has =
      let by_arp : List HostKey = map (λ (e : ℕ × NodeView NeighborRec). host_of_neighbor (arp_of e.0)) s.arps.entries in
      let by_ndp : List HostKey = map (λ (e : ℕ × NodeView NeighborRec). host_of_neighbor (ndp_of e.0)) s.ndps.entries in
      let keys : List NeighborKey = map (λ (e : NeighborKey × NeighborRec). e.0) (plain s).neighbors in
      let P : List HostKey → Type 0 = λ l. Contains l host in
      subst P (sym (neighbor_hosts (plain s).neighbors)) (elim (Contains-append_cases by_arp by_ndp host has) [
        | inl arp ↦
            let found = contains_map host_of_neighbor (arp_keys s) host (subst P (read_hosts arp_of s.arps.entries) arp) in
            subst (λ (h : HostKey). Contains (map host_of_neighbor keys) h) found.2 (map_contains host_of_neighbor keys found.0 (first_together neighbor_cmp neighbor_order (listed arp_of s.arps.entries) (listed ndp_of s.ndps.entries) found.0 arp_asc ndp_asc found.1))
        | inr ndp ↦
            let found = contains_map host_of_neighbor (ndp_keys s) host (subst P (read_hosts ndp_of s.ndps.entries) ndp) in
            subst (λ (h : HostKey). Contains (map host_of_neighbor keys) h) found.2 (map_contains host_of_neighbor keys found.0 (second_together neighbor_cmp neighbor_order (listed arp_of s.arps.entries) (listed ndp_of s.ndps.entries) found.0 arp_asc ndp_asc found.1))
      ])

  -- the walks meet exactly the hosts of the state
  pub all_met : (host : HostKey) → Contains (hosts (plain s)) host → Contains (met_hosts s) host
  all_met host has =
      let near : List HostKey = map (λ (e : NeighborKey × NeighborRec). host_of_neighbor e.0) (plain s).neighbors in
      let far : List HostKey = flat_map (λ (e : RouteKey × FibEntry). forward_hosts e.1) (fibs (rib (plain s))) in
      let met : List HostKey = ([] ++ map (λ (e : ℕ × NodeView NeighborRec). host_of_neighbor (arp_of e.0)) s.arps.entries) ++ map (λ (e : ℕ × NodeView NeighborRec). host_of_neighbor (ndp_of e.0)) s.ndps.entries in
      let more : List HostKey = flat_map (λ (e : ℕ × NodeView FibEntry). forward_hosts e.1.value) s.fibs.entries in
      elim (Contains-append_cases near far host has) [
        | inl here ↦ Contains-append_left met more host (neighbor_met host here)
        | inr there ↦ Contains-append_right met more host (subst (λ (l : List HostKey). Contains l host) (sym forwarded) there)
      ]

  pub met_all : (host : HostKey) → Contains (met_hosts s) host → Contains (hosts (plain s)) host
  met_all host has =
      let near : List HostKey = map (λ (e : NeighborKey × NeighborRec). host_of_neighbor e.0) (plain s).neighbors in
      let far : List HostKey = flat_map (λ (e : RouteKey × FibEntry). forward_hosts e.1) (fibs (rib (plain s))) in
      let met : List HostKey = ([] ++ map (λ (e : ℕ × NodeView NeighborRec). host_of_neighbor (arp_of e.0)) s.arps.entries) ++ map (λ (e : ℕ × NodeView NeighborRec). host_of_neighbor (ndp_of e.0)) s.ndps.entries in
      let more : List HostKey = flat_map (λ (e : ℕ × NodeView FibEntry). forward_hosts e.1.value) s.fibs.entries in
      elim (Contains-append_cases met more host has) [
        | inl here ↦ Contains-append_left near far host (met_neighbor host here)
        | inr there ↦ Contains-append_right near far host (subst (λ (l : List HostKey). Contains l host) forwarded there)
      ]

-- what the three walks have gathered, one after the other
pub met_are : (s : StateView) (arps ndps : MapView NeighborRec) (entries : MapView FibEntry) (none first second third : List HostKey) → none ≡ [] → arps ≡ s.arps → first ≡ none ++ map (λ e. host_of_neighbor (arp_of e.0)) arps.entries → ndps ≡ s.ndps → second ≡ first ++ map (λ e. host_of_neighbor (ndp_of e.0)) ndps.entries → entries ≡ s.fibs → third ≡ second ++ flat_map (λ e. forward_hosts e.1.value) entries.entries → third ≡ met_hosts s
met_are s arps ndps entries none first second third none_is arps_are first_is ndps_are second_is entries_are third_is =
    let by_arp : MapView NeighborRec → List HostKey = λ m. map (λ (e : ℕ × NodeView NeighborRec). host_of_neighbor (arp_of e.0)) m.entries in
    let by_ndp : MapView NeighborRec → List HostKey = λ m. map (λ (e : ℕ × NodeView NeighborRec). host_of_neighbor (ndp_of e.0)) m.entries in
    let by_fib : MapView FibEntry → List HostKey = λ m. flat_map (λ (e : ℕ × NodeView FibEntry). forward_hosts e.1.value) m.entries in
    let one : first ≡ [] ++ by_arp s.arps = first_is ∙ ap (λ (l : List HostKey). l ++ by_arp arps) none_is ∙ ap (λ (m : MapView NeighborRec). [] ++ by_arp m) arps_are in
    let two : second ≡ ([] ++ by_arp s.arps) ++ by_ndp s.ndps = second_is ∙ ap (λ (l : List HostKey). l ++ by_ndp ndps) one ∙ ap (λ (m : MapView NeighborRec). ([] ++ by_arp s.arps) ++ by_ndp m) ndps_are in
    third_is ∙ ap (λ (l : List HostKey). l ++ by_fib entries) two ∙ ap (λ (m : MapView FibEntry). (([] ++ by_arp s.arps) ++ by_ndp s.ndps) ++ by_fib m) entries_are

-- the keys that were met are exactly those that may have a row
pub keys_are : (s : StateView) → HasFib s → (arps ndps : MapView NeighborRec) (keys : List HostKey) → arps ≡ s.arps → All (λ e. IsArpNumber e.0) arps.entries → Ascends nat_cmp arps.entries → ndps ≡ s.ndps → All (λ e. IsNdpNumber e.0) ndps.entries → Ascends nat_cmp ndps.entries → keys ≡ met_hosts s → (host : HostKey) → Contains keys host ↔ Contains (hosts (plain s)) host
keys_are s is arps ndps keys arps_are arp_numbers arps_ascend ndps_are ndp_numbers ndps_ascend met host =
    let a1 : All (λ e. IsArpNumber e.0) s.arps.entries = subst (λ (m : MapView NeighborRec). All (λ e. IsArpNumber e.0) m.entries) arps_are arp_numbers in
    let a2 : Ascends nat_cmp s.arps.entries = subst (λ (m : MapView NeighborRec). Ascends nat_cmp m.entries) arps_are arps_ascend in
    let n1 : All (λ e. IsNdpNumber e.0) s.ndps.entries = subst (λ (m : MapView NeighborRec). All (λ e. IsNdpNumber e.0) m.entries) ndps_are ndp_numbers in
    let n2 : Ascends nat_cmp s.ndps.entries = subst (λ (m : MapView NeighborRec). Ascends nat_cmp m.entries) ndps_are ndps_ascend in (
      (λ has. met_all s is a1 a2 n1 n2 host (subst (λ (l : List HostKey). Contains l host) met has)),
      (λ has. subst (λ (l : List HostKey). Contains l host) (sym met) (all_met s is a1 a2 n1 n2 host has)),
    )

-- the rows of the host table
pub host_rows_are : (m : PlainState) (derived : HostKey → HostKey → Ordering) → derived ≡ host_cmp → (keys distinct listed : List HostKey) → ((host : HostKey) → Contains keys host ↔ Contains (hosts m) host) → distinct ≡ set_of derived keys → listed ≡ distinct → flat_map (λ key. entry_of key (host_row m key)) listed ≡ (rows m).host
host_rows_are m derived one keys distinct listed same is_set is =
    ap (flat_map (λ (key : HostKey). entry_of key (host_row m key))) (is ∙ is_set ∙ ap (λ (cmp : HostKey → HostKey → Ordering). set_of cmp keys) one ∙ same_set host_cmp host_order keys (hosts m) (λ host. (same host).0) (λ host. (same host).1))
    ∙ entries_one_by_one host_cmp host_order (host_row m) (hosts m)
