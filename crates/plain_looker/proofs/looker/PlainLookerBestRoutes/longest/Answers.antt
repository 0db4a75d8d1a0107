use Rattle.std.proofs.Common.{None, Some, sym, ap, ◌∙◌}
use Rattle.switch_model.specs.LongestMatch.{longest_match, with_best}
use Rattle.switch_model.specs.PlainState.{PlainState, rib}
use Rattle.plain_looker.proofs.PlainLaws.{longest-by}
use Rattle.plain_looker.proofs.looker.PlainLookerBestRoutes.longest.Goals as goal

pub returns-in-Some : goal.returns-in-Some
returns-in-Some c =
    let found = rw (c.entries.ensures, c.entries-2.ensures) at c.in-Some.ensures in
    c.with_best.ensures
    ∙ ap (λ (m : PlainState). with_best (rib m) c.args.vrf c.in-Some.key.prefix) (sym c.self.view_is)
    ∙ longest-by (record { intfs = c.self.inside.intfs; routes = c.self.inside.routes }) c.args.vrf c.args.ip (Some c.in-Some.key) found
    ∙ ap (λ (m : PlainState). longest_match (rib m) c.args.vrf c.args.ip) c.self.view_is

pub returns-in-None : goal.returns-in-None
returns-in-None c =
    let found = rw (c.entries.ensures, c.entries-2.ensures) at c.in-None.ensures in
    longest-by (record { intfs = c.self.inside.intfs; routes = c.self.inside.routes }) c.args.vrf c.args.ip None found
    ∙ ap (λ (m : PlainState). longest_match (rib m) c.args.vrf c.args.ip) c.self.view_is
