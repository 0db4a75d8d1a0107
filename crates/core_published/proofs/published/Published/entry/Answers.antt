use Rattle.std.proofs.Common.{ap, slice_get, ◌∙◌}
use Rattle.core_laws.specs.Published.{PublishedView}
use Rattle.switch_model.specs.Journal.{entries_of}
use Rattle.core_published.proofs.published.Published.entry.Goals as goal

pub returns : goal.returns
returns c = record { entry = c.entry.ensures.entry ∙ ap (λ (v : PublishedView). slice_get (entries_of v.rounds) c.args.position) c.self.view_is }
