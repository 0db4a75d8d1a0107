use Rattle.std.proofs.Common.{ap, ◌∙◌}
use Rattle.switch_model.specs.Looking.{key_after}
use Rattle.switch_model.specs.LongestMatch.{best_keys}
use Rattle.switch_model.specs.PlainState.{PlainState, rib}
use Rattle.plain_looker.proofs.PlainLaws.{after-by}
use Rattle.plain_looker.proofs.looker.PlainLookerBestRoutes.after.Goals as goal

pub returns : goal.returns
returns c =
    let found = rw (c.entries.ensures, c.entries-2.ensures) at c.least_key.ensures in
    after-by (record { intfs = c.self.inside.intfs; routes = c.self.inside.routes }) c.args.key c.least_key.result found ∙ ap (λ (m : PlainState). key_after c.args.key (best_keys (rib m))) c.self.view_is
