use Rattle.std.proofs.Common.{ap, subst, sym, ◌∙◌}
use Rattle.chip_core.specs.Chip.{IsChip}
use Rattle.core_laws.proofs.OpenLaws.{adopt_core}
use Rattle.core_laws.specs.Published.{PublishedView}
use Rattle.net_types.specs.declared.table.Caps.{Caps}
use Rattle.switch_state.specs.Follows.{Follows}
use Rattle.agent_core.proofs.Steps.{begun_at}
use Rattle.agent_core.proofs.opening.begin.Goals as goal

pub invariant_of-result : goal.invariant_of-result
invariant_of-result g c = adopt_core c.args.base c.in_ok-published.published _ _ c.of-caps.result _ _ c.in_ok-audience.audience
    c.in_ok-published.ensures.opened c.requires.sound c.requires.fib
    (subst (λ (p : PublishedView). Follows p.state p.state) c.in_ok-published.ensures.opened c.shape.ensures.follows)
    (subst (λ (caps : Caps). IsChip caps (g.C.HwSwitch.raw c.args.chip)) (sym c.of-caps.ensures.caps) (g.met.C.HwSwitch.sound c.args.chip))
    c.requires.shown
    (sym c.of-caps.ensures.caps)
    (begun_at _ _ _ c.in_ok-audience.audience (c.state.ensures.state ∙ ap (λ (p : PublishedView). p.state) c.in_ok-published.ensures.opened) c.in_ok-audience.ensures.begun)
