use Rattle.std.proofs.Common.{◌≡◌, ◌++◌, map}
use Rattle.switch_model.specs.declared.act.Act.TheVariants.{RouteSet}
use Rattle.switch_model.specs.Sound.{via_of}
use Rattle.saved_state.proofs.acts.add_routes.Given as goal

abbrev pub invariant-loop-route : goal.invariant-loop-route
invariant-loop-route l = l.acts ≡ l.fn.acts ++ map (λ e. RouteSet e.0.vrf e.0.prefix e.0.client (via_of e.1)) l.yielded
