use Rattle.std.proofs.Common.{ap, ◌∙◌}
use Rattle.core_laws.specs.Published.{PublishedView}
use Rattle.shared_journal.specs.Ends.{end_of}
use Rattle.core_published.proofs.published.Published.round_end.Goals as goal

pub returns : goal.returns
returns c = record { end = c.round_end.ensures.end ∙ ap (λ (v : PublishedView). end_of v.rounds c.args.k) c.self.view_is }
