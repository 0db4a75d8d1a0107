-- Entries that are made anew.
use Rattle.std.specs.Prelude.{◌≡◌, List}
use Rattle.std.specs.List.{Contains}
use Rattle.net_types.specs.declared.table.RouteKey.{RouteKey}
use Rattle.switch_model.specs.Fib.{fib}
use Rattle.switch_model.specs.PlainState.{Rib}
use Rattle.switch_state.specs.StateView.{StateView}
use Rattle.fib_build.specs.Part.{entry_at}

-- the keys have the entries that the routes give them, and each other key has what it had
pub record AreRefreshed (rib : Rib) (keys : List RouteKey) (old new : StateView) : Type 0 where
  pub made : (k : RouteKey) → Contains keys k → entry_at k new ≡ fib rib k.vrf k.prefix
  pub rest : (k : RouteKey) → (Contains keys k → ⊥) → entry_at k new ≡ entry_at k old
