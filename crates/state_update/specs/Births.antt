-- What an update leaves as it is.
use Rattle.std.specs.Prelude.{◌≡◌, ℕ, None, Some}
use Rattle.std.specs.Ordering.{nat_cmp}
use Rattle.keyed.specs.Keyed.{at}
use Rattle.node_core.specs.Node.{NodeView}
use Rattle.node_map.specs.Map.{MapView}
use Rattle.switch_model.specs.Touched.{Touched}
use Rattle.switch_state.specs.Edit.{EditView}
use Rattle.switch_state.specs.Paths.{PartsMade}
use Rattle.switch_state.specs.StateView.{StateView}

-- a key that stands in both maps has one birth in both
abbrev pub SameBirths : {T : Type 0} → MapView T → MapView T → Type 0
SameBirths {T} old new = (key : ℕ) (was is : NodeView T) → at nat_cmp key old.entries ≡ Some was → at nat_cmp key new.entries ≡ Some is → is.born ≡ was.born

-- a key that stands in one part of both states has one birth in both
pub record KeepsBirths (old new : StateView) : Type 0 where
  pub vlans : SameBirths old.vlans new.vlans
  pub ports : SameBirths old.ports new.ports
  pub intfs : SameBirths old.intfs new.intfs
  pub macs : SameBirths old.macs new.macs
  pub arps : SameBirths old.arps new.arps
  pub ndps : SameBirths old.ndps new.ndps
  pub routes : SameBirths old.routes new.routes
  pub fibs : SameBirths old.fibs new.fibs

-- a key that stands in the new map alone is born at the version
abbrev pub NewBirths : {T : Type 0} → ℕ → MapView T → MapView T → Type 0
NewBirths {T} version old new = (key : ℕ) (is : NodeView T) → at nat_cmp key old.entries ≡ None → at nat_cmp key new.entries ≡ Some is → is.born ≡ version

-- a key that stands in one part of the new state alone is born at the version
pub record BornAt (version : ℕ) (old new : StateView) : Type 0 where
  pub vlans : NewBirths version old.vlans new.vlans
  pub ports : NewBirths version old.ports new.ports
  pub intfs : NewBirths version old.intfs new.intfs
  pub macs : NewBirths version old.macs new.macs
  pub arps : NewBirths version old.arps new.arps
  pub ndps : NewBirths version old.ndps new.ndps
  pub routes : NewBirths version old.routes new.routes
  pub fibs : NewBirths version old.fibs new.fibs

-- the edit is of the same state at the same version, with the same FIB; each key that stands on keeps its birth, a new one is born at the version, and new nodes are on the paths of touched keys
pub record KeepsRest (t : Touched) (old new : EditView) : Type 0 where
  pub base : new.base ≡ old.base
  pub version : new.state.version ≡ old.state.version
  pub fibs : new.state.fibs ≡ old.state.fibs
  pub births : KeepsBirths old.state new.state
  pub born : BornAt old.state.version old.state new.state
  pub paths : PartsMade old.state.version t old.state new.state
