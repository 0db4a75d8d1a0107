-- Paths of touched keys in all parts of a state.
use Rattle.std.proofs.Common.{◌≡◌, ℕ, ◌<◌, ◌≤◌, ◌*◌, List, ◌++◌, length, map, ap, subst, sym, ◌∙◌, arith}
use Rattle.std.specs.List.{Contains, count_by}
use Rattle.std.specs.Ordering.{nat_cmp}
use Rattle.std.specs.declared.cmp.Ordering.{Ordering}
use Rattle.std.proofs.lemmas.List.{length-map, map-append}
use Rattle.keyed.specs.Keyed.{IsKeyOrder}
use Rattle.keyed.specs.KeyOrders.{nat_order}
use Rattle.keyed.specs.Members.{contains_map, map_contains}
use Rattle.keyed.specs.SetLaws.{set_of_contains}
use Rattle.keyed.specs.Sets.{set_of}
use Rattle.net_types.specs.KeyOrder.{l2_cmp, l2_order}
use Rattle.node_map.specs.Map.{MapView}
use Rattle.node_map.specs.Paths.{ArePathsMade, LieOnPaths, is_of}
use Rattle.node_map.specs.TreeNode.{PathsFit, TreeNode}
use Rattle.node_map.proofs.Touching.{few, lie, paths_after, paths_none}
use Rattle.switch_model.specs.StateKeys.{neighbor_cmp, neighbor_order, rib_cmp, rib_order}
use Rattle.switch_model.specs.Touched.{Touched, touched_both}
use Rattle.state_keys.specs.PartKeys.{vlan_number, port_number, intf_number, station_number, neighbor_number, rib_number}
use Rattle.switch_state.specs.Follows.{AreMadeBy}
use Rattle.switch_state.specs.Paths.{FewMade, PartsFit, PartsMade, PartsOnPaths}
use Rattle.switch_state.specs.StateView.{StateView}

pub parts_none : (version : ℕ) (t : Touched) (s : StateView) → PartsMade version t s s
parts_none version t s = record { vlans = paths_none; ports = paths_none; intfs = paths_none; macs = paths_none; arps = paths_none; ndps = paths_none; routes = paths_none }

after : {K T : Type 0} {version : ℕ} (number : K → ℕ) (first step : List K) {old mid new : List (TreeNode T)} → ArePathsMade version (Contains (map number first)) old mid → ArePathsMade version (Contains (map number step)) mid new → ArePathsMade version (Contains (map number (first ++ step))) old new
after {K} {T} {version} number first step {old} {mid} {new} one two = subst (λ (keys : List ℕ). ArePathsMade version (Contains keys) old new) (sym (map-append number first step)) (paths_after (map number first) (map number step) one two)

-- changes one after another touch the keys of both
pub parts_after : (version : ℕ) (a b : Touched) (first second third : StateView) → PartsMade version a first second → PartsMade version b second third → PartsMade version (touched_both a b) first third
parts_after version a b first second third one two = record {
  vlans = after vlan_number a.vlans b.vlans one.vlans two.vlans;
  ports = after port_number a.ports b.ports one.ports two.ports;
  intfs = after intf_number a.intfs b.intfs one.intfs two.intfs;
  macs = after station_number a.macs b.macs one.macs two.macs;
  arps = after neighbor_number a.arps b.arps one.arps two.arps;
  ndps = after neighbor_number a.ndps b.ndps one.ndps two.ndps;
  routes = after rib_number a.routes b.routes one.routes two.routes;
}

-- what is of the version, where the old state was made before it
pub parts_lie : (before version : ℕ) (t : Touched) (old new : StateView) → before < version → AreMadeBy before old → PartsMade version t old new → PartsOnPaths version t new
parts_lie before version t old new later by made = record {
  vlans = lie later by.vlans made.vlans;
  ports = lie later by.ports made.ports;
  intfs = lie later by.intfs made.intfs;
  macs = lie later by.macs made.macs;
  arps = lie later by.arps made.arps;
  ndps = lie later by.ndps made.ndps;
  routes = lie later by.routes made.routes;
}

-- a key that stands in a list stands once in its set
paths_once : {K T : Type 0} (cmp : K → K → Ordering) → IsKeyOrder cmp → (version : ℕ) (number : K → ℕ) (keys : List K) (nodes : List (TreeNode T)) → LieOnPaths version (Contains (map number keys)) nodes → LieOnPaths version (Contains (map number (set_of cmp keys))) nodes
paths_once cmp order version number keys nodes lies = record {
  each = λ n there is.
      let on = lies.each n there is in
      let key = contains_map number keys on.0 on.1 in
      let once : Contains (map number (set_of cmp keys)) on.0 = subst (λ (k : ℕ). Contains (map number (set_of cmp keys)) k) key.2 (map_contains number (set_of cmp keys) key.0 (set_of_contains cmp order keys key.0 key.1)) in
      (on.0, once, on.2);
}

few_of : {K T : Type 0} (cmp : K → K → Ordering) → IsKeyOrder cmp → (version : ℕ) (number : K → ℕ) (keys : List K) (nodes : List (TreeNode T)) → PathsFit nodes → LieOnPaths version (Contains (map number keys)) nodes → count_by (is_of version) nodes ≤ 193 * length (set_of cmp keys)
few_of cmp order version number keys nodes fit lies =
    let h = few version (map number (set_of cmp keys)) nodes fit (paths_once cmp order version number keys nodes lies) in
    let n : length (map number (set_of cmp keys)) ≡ length (set_of cmp keys) = length-map (set_of cmp keys) number in
    omega arith

pub parts_few : (version : ℕ) (t : Touched) (s : StateView) → PartsFit s → PartsOnPaths version t s → FewMade version t s
parts_few version t s fit lies = record {
  vlans = few_of nat_cmp nat_order version vlan_number t.vlans s.vlans.nodes fit.vlans lies.vlans;
  ports = few_of nat_cmp nat_order version port_number t.ports s.ports.nodes fit.ports lies.ports;
  intfs = few_of nat_cmp nat_order version intf_number t.intfs s.intfs.nodes fit.intfs lies.intfs;
  macs = few_of l2_cmp l2_order version station_number t.macs s.macs.nodes fit.macs lies.macs;
  arps = few_of neighbor_cmp neighbor_order version neighbor_number t.arps s.arps.nodes fit.arps lies.arps;
  ndps = few_of neighbor_cmp neighbor_order version neighbor_number t.ndps s.ndps.nodes fit.ndps lies.ndps;
  routes = few_of rib_cmp rib_order version rib_number t.routes s.routes.nodes fit.routes lies.routes;
}

pub same_fit : {T : Type 0} {m n : MapView T} → m ≡ n → PathsFit m.nodes → PathsFit n.nodes
same_fit {T} same fit = subst (λ (x : MapView T). PathsFit x.nodes) same fit
