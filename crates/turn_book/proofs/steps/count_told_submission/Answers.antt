use Rattle.std.proofs.Common.{rules, ◌∙◌}
use Rattle.turn_book.proofs.KeepsCounts.{counts_one}
use Rattle.turn_book.proofs.steps.count_told_submission.Goals as goal

pub fetch_add-requires : goal.fetch_add-requires
fetch_add-requires g c =
    let next = c.requires.next in
    (search rules, search rules, counts_one _ _ _ _ _ _ _ next.0 c.requires.unspent c.requires.turn (c.requires.told ∙ next.1) next.2 next.3 c.requires.room)
