-- A state whose FIB is that of its routes.
use Rattle.std.specs.Prelude.{◌≡◌}
use Rattle.switch_model.specs.Fib.{fibs}
use Rattle.switch_model.specs.PlainState.{rib}
use Rattle.switch_state.specs.Plain.{fib_entries, plain}
use Rattle.switch_state.specs.StateView.{StateView}

-- the entries of the FIB are those that the routes and interfaces give
pub record HasFib (s : StateView) : Type 0 where
  pub fib : fib_entries s ≡ fibs (rib (plain s))
