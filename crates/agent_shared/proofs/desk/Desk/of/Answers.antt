use Rattle.std.proofs.Common.{◌≡◌, ap, ◌∙◌}
use Rattle.core_laws.specs.Published.{PublishedView, journal_of}
use Rattle.agent_shared.proofs.Desks.{desk_new, desk_opened}
use Rattle.agent_shared.proofs.desk.Desk.of.Goals as goal

pub invariant_of-result : goal.invariant_of-result
invariant_of-result g c =
    let same = c.in_ok-published.ensures.same ∙ c.published.ensures.published in
    desk_opened c.args.core.now c.in_ok-published.published c.new.result c.args.limit c.of.result c.shape.ensures.core same c.new.ensures.list c.requires.new c.requires.room

pub returns : goal.returns
returns g c =
    let same : c.in_ok-published.published ≡ c.args.core.now.published = c.in_ok-published.ensures.same ∙ c.published.ensures.published in
    let sure = c.of.ensures.sure in record {
      basis = λ i. record { opening = (journal_of (same i)).opening; limit = c.args.limit; sure = sure i };
      sent = desk_new c.args.core.now c.in_ok-published.published c.new.result same c.new.ensures.list c.requires.new;
      rounds = ap (λ (v : PublishedView). v.rounds) same ∙ c.requires.new;
    }
