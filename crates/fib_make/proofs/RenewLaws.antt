-- What stands of an edit whose FIB is still that of its base.
use Rattle.std.proofs.Common.{◌≡◌, List, sym, ap, ◌∙◌, subst}
use Rattle.std.specs.List.{Contains}
use Rattle.net_types.specs.declared.table.RouteKey.{RouteKey}
use Rattle.node_map.specs.Map.{MapView}
use Rattle.state_keys.specs.PartKeys.{fib_of}
use Rattle.state_scan.specs.Listed.{listed}
use Rattle.switch_model.specs.declared.record.FibEntry.{FibEntry}
use Rattle.switch_model.specs.Fib.{fibs}
use Rattle.switch_model.specs.PlainState.{Rib, rib}
use Rattle.switch_state.specs.Plain.{fib_entries, plain}
use Rattle.switch_state.specs.StateView.{StateView}
use Rattle.state_laws.specs.Fib.{HasFib}
use Rattle.route_laws.specs.Moved.{AreMoved, IsMoved}

pub right-before : (now base old : StateView) → now.fibs ≡ old.fibs → base ≡ old → HasFib old → fib_entries now ≡ fibs (rib (plain base))
right-before now base old same is right = ap (λ (m : MapView FibEntry). listed fib_of m.entries) same ∙ right.fib ∙ ap (λ (s : StateView). fibs (rib (plain s))) (sym is)

pub listed-moved : (new : Rib) (base old : StateView) (moved slice : List RouteKey) → base ≡ old → slice ≡ moved → AreMoved (rib (plain old)) new moved → (key : RouteKey) → IsMoved (rib (plain base)) new key → Contains slice key
listed-moved new base old moved slice is same are key it =
    subst (λ (l : List RouteKey). Contains l key) (sym same) ((are.exact key).1 (subst (λ (s : StateView). IsMoved (rib (plain s)) new key) is it))
