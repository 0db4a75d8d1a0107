use Rattle.std.proofs.Common.{Option, is_some, ap, ◌∙◌}
use Rattle.std.specs.Option.{option_copied}
use Rattle.switch_model.specs.declared.record.RouteRec.{RouteRec}
use Rattle.state_keys.specs.KeyLaws.{rib_numbering}
use Rattle.state_scan.proofs.Looking.{looked_up, some_copied}
use Rattle.state_update.proofs.reason.has_route.Goals as goal

pub returns : goal.returns
returns c = c.is_some.ensures ∙ some_copied c.record_under.result ∙ ap (λ (o : Option RouteRec). is_some o) (looked_up rib_numbering c.args.key.now c.rib_key.result c.routes.result.now c.args.edit.now.state.routes (option_copied c.record_under.result) c.rib_key.ensures.range c.rib_key.ensures.key c.routes.ensures.map c.routes.ensures.part.numbers c.record_under.ensures)
