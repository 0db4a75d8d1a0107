-- Keys of the FIB that a change touches, and what touched keys tell of differences.
use Rattle.std.specs.Prelude.{List, ◌++◌}
use Rattle.keyed.specs.Differing.{AreDifferingKeys}
use Rattle.net_types.specs.declared.table.RouteKey.{RouteKey}
use Rattle.net_types.specs.KeyOrder.{route_cmp}
use Rattle.row_laws.specs.Touching.{Differences}
use Rattle.switch_model.specs.Fib.{fibs}
use Rattle.switch_model.specs.PlainState.{PlainState, rib}
use Rattle.switch_model.specs.Touched.{Touched}

-- the touched keys of the parts that rows rest on, neighbours of both families together, with the keys of FIB entries
abbrev pub differences_of : Touched → List RouteKey → Differences
differences_of t fibs = record { ports = t.ports; intfs = t.intfs; macs = t.macs; neighbors = t.arps ++ t.ndps; fibs = fibs }

-- the keys of the FIB that a change touches: exactly those whose entries differ between the two states, ascending
abbrev pub AreTouchedFibs : PlainState → PlainState → List RouteKey → Type 0
AreTouchedFibs old new keys = AreDifferingKeys route_cmp keys (fibs (rib old)) (fibs (rib new))

-- the touched keys of the FIB can be listed
pub record HasTouchedFibs (old new : PlainState) : Type 0 where
  pub keys : List RouteKey
  pub are : AreTouchedFibs old new keys
