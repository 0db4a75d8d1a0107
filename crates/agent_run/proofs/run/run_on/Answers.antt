use Rattle.std.proofs.Common.{◌∙◌, [], ap, map}
use Rattle.agent_run.proofs.RunningLaws.{opened_reports}
use Rattle.net_types.specs.declared.table.Caps.{Caps}
use Rattle.switch_model.specs.Journal.{Journal}
use Rattle.switch_state.specs.Plain.{plain}
use Rattle.agent_run.proofs.run.run_on.Goals as goal

pub returns-in_ok-text-in-Ok-clause-report : goal.returns-in_ok-text-in-Ok-clause-report
returns-in_ok-text-in-Ok-clause-report g c =
    let opened : Caps → Journal = λ k. record { opening = record { state = plain c.args.state; version = c.args.state.version; caps = k }; rounds = [] } in
    opened_reports c.args.work c.args.state c.in-Ok.core (map g.O.StateObserver.watch c.args.observers.list.items) c.in_ok-text-in-Ok.text.items (c.in-Ok.ensures.journal ∙ ap opened c.requires.caps) c.in-Ok.ensures.begun.watches c.in_ok-text-in-Ok.ensures.report
