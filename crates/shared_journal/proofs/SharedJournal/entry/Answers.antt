use Rattle.std.proofs.Common.{List, ap, slice_get, ◌∙◌}
use Rattle.switch_model.specs.declared.journal.Entry.{Entry}
use Rattle.shared_journal.proofs.Cuts.{entries_are}
use Rattle.shared_journal.proofs.SharedJournal.entry.Goals as goal

pub returns : goal.returns
returns c = record { entry = c.get.ensures.item ∙ ap (λ (l : List Entry). slice_get l c.args.position) (entries_are c.self.inside.ends c.self.inside.entries c.args.self.now c.self.invariant c.self.view_is) }
