use Rattle.turn_book.proofs.steps.count_one_round.Given as goal

abbrev pub ghosts-count_told_round : goal.ghosts-count_told_round
ghosts-count_told_round g a = record { log = g.V.Stands.sent a.v.now; journal = g.V.Settles.done a.v.now }
