-- Which nodes of a state lie on the paths of touched keys.
use Rattle.std.specs.Prelude.{ℕ, ◌≤◌, ◌*◌, length, map, count_by}
use Rattle.std.specs.List.{Contains}
use Rattle.std.specs.Ordering.{nat_cmp}
use Rattle.keyed.specs.Sets.{set_of}
use Rattle.net_types.specs.KeyOrder.{l2_cmp}
use Rattle.node_map.specs.Paths.{ArePathsMade, LieOnPaths, is_of}
use Rattle.node_map.specs.TreeNode.{PathsFit}
use Rattle.switch_model.specs.StateKeys.{neighbor_cmp, rib_cmp}
use Rattle.switch_model.specs.Touched.{Touched}
use Rattle.state_keys.specs.PartKeys.{vlan_number, port_number, intf_number, station_number, neighbor_number, rib_number}
use Rattle.switch_state.specs.StateView.{StateView}

-- in each part but the FIB each node is one of the old part's, or was made at the version on the path of a key that is touched there
pub record PartsMade (version : ℕ) (t : Touched) (old new : StateView) : Type 0 where
  pub vlans : ArePathsMade version (Contains (map vlan_number t.vlans)) old.vlans.nodes new.vlans.nodes
  pub ports : ArePathsMade version (Contains (map port_number t.ports)) old.ports.nodes new.ports.nodes
  pub intfs : ArePathsMade version (Contains (map intf_number t.intfs)) old.intfs.nodes new.intfs.nodes
  pub macs : ArePathsMade version (Contains (map station_number t.macs)) old.macs.nodes new.macs.nodes
  pub arps : ArePathsMade version (Contains (map neighbor_number t.arps)) old.arps.nodes new.arps.nodes
  pub ndps : ArePathsMade version (Contains (map neighbor_number t.ndps)) old.ndps.nodes new.ndps.nodes
  pub routes : ArePathsMade version (Contains (map rib_number t.routes)) old.routes.nodes new.routes.nodes

-- in each part but the FIB each node of the version lies on the path of a key that is touched there
pub record PartsOnPaths (version : ℕ) (t : Touched) (s : StateView) : Type 0 where
  pub vlans : LieOnPaths version (Contains (map vlan_number t.vlans)) s.vlans.nodes
  pub ports : LieOnPaths version (Contains (map port_number t.ports)) s.ports.nodes
  pub intfs : LieOnPaths version (Contains (map intf_number t.intfs)) s.intfs.nodes
  pub macs : LieOnPaths version (Contains (map station_number t.macs)) s.macs.nodes
  pub arps : LieOnPaths version (Contains (map neighbor_number t.arps)) s.arps.nodes
  pub ndps : LieOnPaths version (Contains (map neighbor_number t.ndps)) s.ndps.nodes
  pub routes : LieOnPaths version (Contains (map rib_number t.routes)) s.routes.nodes

-- at most 193 nodes of each part but the FIB are on the path of one key
pub record PartsFit (s : StateView) : Type 0 where
  pub vlans : PathsFit s.vlans.nodes
  pub ports : PathsFit s.ports.nodes
  pub intfs : PathsFit s.intfs.nodes
  pub macs : PathsFit s.macs.nodes
  pub arps : PathsFit s.arps.nodes
  pub ndps : PathsFit s.ndps.nodes
  pub routes : PathsFit s.routes.nodes

-- each part but the FIB has at most 193 nodes of the version for each key that is touched there, where a key that is touched more than once counts once
pub record FewMade (version : ℕ) (t : Touched) (s : StateView) : Type 0 where
  pub vlans : count_by (is_of version) s.vlans.nodes ≤ 193 * length (set_of nat_cmp t.vlans)
  pub ports : count_by (is_of version) s.ports.nodes ≤ 193 * length (set_of nat_cmp t.ports)
  pub intfs : count_by (is_of version) s.intfs.nodes ≤ 193 * length (set_of nat_cmp t.intfs)
  pub macs : count_by (is_of version) s.macs.nodes ≤ 193 * length (set_of l2_cmp t.macs)
  pub arps : count_by (is_of version) s.arps.nodes ≤ 193 * length (set_of neighbor_cmp t.arps)
  pub ndps : count_by (is_of version) s.ndps.nodes ≤ 193 * length (set_of neighbor_cmp t.ndps)
  pub routes : count_by (is_of version) s.routes.nodes ≤ 193 * length (set_of rib_cmp t.routes)
