use Rattle.std.proofs.Common.{ap, ◌∙◌}
use Rattle.core_laws.specs.Published.{PublishedView}
use Rattle.core_published.proofs.Extending.{same_view, share_published}
use Rattle.core_published.proofs.published.Published.share.Goals as goal

pub invariant_of-result : goal.invariant_of-result
invariant_of-result c = share_published (record { base = c.self.inside.base; state = c.self.inside.state; rounds = c.self.inside.rounds; caps = c.self.inside.caps }) c.in_ok-base.base c.in_ok-state.state c.in_ok-rounds.rounds c.copy.result c.self.invariant c.in_ok-base.ensures c.in_ok-state.ensures c.in_ok-rounds.ensures.same c.copy.ensures.same

pub returns : goal.returns
returns c = record { same = same_view c.args.self.now c.in_ok-base.base c.in_ok-state.state c.in_ok-rounds.rounds c.copy.result (c.in_ok-base.ensures ∙ ap (λ (v : PublishedView). v.base) c.self.view_is) (c.in_ok-state.ensures ∙ ap (λ (v : PublishedView). v.state) c.self.view_is) (c.in_ok-rounds.ensures.same ∙ ap (λ (v : PublishedView). v.rounds) c.self.view_is) (c.copy.ensures.same ∙ ap (λ (v : PublishedView). v.caps) c.self.view_is) }
