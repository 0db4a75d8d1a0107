use Rattle.turn_book.proofs.steps.count_one_submission.Given as goal

abbrev pub ghosts-count_told_submission : goal.ghosts-count_told_submission
ghosts-count_told_submission g a = record { log = g.V.Stands.sent a.v.now; journal = g.V.Settles.done a.v.now }
