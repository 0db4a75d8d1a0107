use Rattle.std.proofs.Common.{sym, subst}
use Rattle.std.specs.List.{All}
use Rattle.node_map.specs.Map.{MapView}
use Rattle.switch_model.specs.declared.record.RouteRec.{RouteRec}
use Rattle.switch_model.specs.PlainState.{rib}
use Rattle.switch_state.specs.Plain.{plain}
use Rattle.state_keys.specs.PartKeys.{IsRibNumber}
use Rattle.fib_make.proofs.RenewLaws.{listed-moved, right-before}
use Rattle.fib_make.proofs.renew.renew_fib.Goals as goal

pub of-view-requires-clause-routes : goal.of-view-requires-clause-routes
of-view-requires-clause-routes c = subst (λ (m : MapView RouteRec). All (λ e. IsRibNumber e.0) m.entries) (sym c.in_ok-routes.ensures) c.routes.ensures.part.numbers

pub refresh_fib-requires-clause-before : goal.refresh_fib-requires-clause-before
refresh_fib-requires-clause-before c = right-before c.args.edit.now.state c.args.edit.now.base c.args.old.now c.requires.untouched c.requires.base c.requires.right

pub refresh_fib-requires-clause-listed : goal.refresh_fib-requires-clause-listed
refresh_fib-requires-clause-listed c = listed-moved (rib (plain c.args.edit.now.state)) c.args.edit.now.base c.args.old.now c.in_ok-moved.moved.items c.as_slice.result.now c.requires.base c.as_slice.ensures.value c.in_ok-moved.ensures
