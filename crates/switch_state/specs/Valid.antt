-- What holds of every state.
use Rattle.std.specs.Prelude.{◌≡◌, ℕ, All}
use Rattle.std.specs.Ordering.{nat_cmp}
use Rattle.keyed.specs.Keyed.{Ascends}
use Rattle.node_map.specs.Follows.{IsMadeBy}
use Rattle.node_map.specs.Map.{MapView}
use Rattle.state_keys.specs.PartKeys.{IsVlanNumber, IsPortNumber, IsIntfNumber, IsStationNumber, IsArpNumber, IsNdpNumber, IsRibNumber, IsFibNumber, intf_of}
use Rattle.state_index.specs.IntfIndex.{IndexView, indexed}
use Rattle.state_scan.specs.Listed.{listed}
use Rattle.switch_state.specs.StateView.{StateView}

-- the map was made by the version, and its keys are numbers of the part's keys, in order
pub record IsPart {T : Type 0} (IsNumber : ℕ → Type 0) (version : ℕ) (m : MapView T) : Type 0 where
  pub made : IsMadeBy version m.nodes
  pub numbers : All (λ e. IsNumber e.0) m.entries
  pub ascends : Ascends nat_cmp m.entries

-- each part is one of its keys, made by the state's version
pub record IsState (s : StateView) : Type 0 where
  pub vlans : IsPart IsVlanNumber s.version s.vlans
  pub ports : IsPart IsPortNumber s.version s.ports
  pub intfs : IsPart IsIntfNumber s.version s.intfs
  pub macs : IsPart IsStationNumber s.version s.macs
  pub arps : IsPart IsArpNumber s.version s.arps
  pub ndps : IsPart IsNdpNumber s.version s.ndps
  pub routes : IsPart IsRibNumber s.version s.routes
  pub fibs : IsPart IsFibNumber s.version s.fibs

-- a state with what it keeps beside its parts: the indexes are those of its interfaces
pub record IsKept (s : StateView) (index : IndexView) : Type 0 where
  pub parts : IsState s
  pub index_is : index ≡ indexed (listed intf_of s.intfs.entries)
