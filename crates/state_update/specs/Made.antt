-- What was made at one version.
use Rattle.std.specs.Prelude.{◌≡◌, ℕ, List, Some}
use Rattle.std.specs.List.{Contains}
use Rattle.std.specs.Ordering.{nat_cmp}
use Rattle.keyed.specs.Keyed.{at}
use Rattle.node_core.specs.Node.{NodeView}
use Rattle.node_map.specs.Map.{MapView}
use Rattle.node_map.specs.TreeNode.{TreeNode}
use Rattle.switch_state.specs.StateView.{StateView}

-- each node was made at the version
pub record IsMadeAt {T : Type 0} (version : ℕ) (nodes : List (TreeNode T)) : Type 0 where
  pub each : (n : TreeNode T) → Contains nodes n → n.generation ≡ version

-- each node of each part was
pub record AreMadeAt (version : ℕ) (s : StateView) : Type 0 where
  pub vlans : IsMadeAt version s.vlans.nodes
  pub ports : IsMadeAt version s.ports.nodes
  pub intfs : IsMadeAt version s.intfs.nodes
  pub macs : IsMadeAt version s.macs.nodes
  pub arps : IsMadeAt version s.arps.nodes
  pub ndps : IsMadeAt version s.ndps.nodes
  pub routes : IsMadeAt version s.routes.nodes
  pub fibs : IsMadeAt version s.fibs.nodes

-- each entry was born at the version
pub record IsBornAt {T : Type 0} (version : ℕ) (m : MapView T) : Type 0 where
  pub each : (key : ℕ) (is : NodeView T) → at nat_cmp key m.entries ≡ Some is → is.born ≡ version

-- each entry of each part was
pub record AreBornAt (version : ℕ) (s : StateView) : Type 0 where
  pub vlans : IsBornAt version s.vlans
  pub ports : IsBornAt version s.ports
  pub intfs : IsBornAt version s.intfs
  pub macs : IsBornAt version s.macs
  pub arps : IsBornAt version s.arps
  pub ndps : IsBornAt version s.ndps
  pub routes : IsBornAt version s.routes
  pub fibs : IsBornAt version s.fibs
