use Rattle.std.proofs.Common.{◌≡◌, sym, subst}
use Rattle.std.specs.Result.{IfOk}
use Rattle.switch_model.specs.declared.act.Act.{Act}
use Rattle.switch_model.specs.First.{first_that_holds}
use Rattle.switch_model.specs.Reason.{route_reasons}
use Rattle.switch_state.specs.Plain.{plain}
use Rattle.state_update.proofs.reason.route_reason.Goals as goal

pub returns-in-ClientSync : goal.returns-in-ClientSync
returns-in-ClientSync c = subst (λ (a : Act). IfOk c.client_sync.result (λ r. r ≡ first_that_holds (route_reasons (plain c.args.edit.now.state) a))) (sym c.in-ClientSync.is) c.client_sync.ensures
