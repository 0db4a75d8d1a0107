use Rattle.hw_undo_check.proofs.cases.repaired.Goals as goal

pub returns-clause-tables : goal.returns-clause-tables
returns-clause-tables c = c.in_ok-paired.ensures

pub returns-clause-changes : goal.returns-clause-changes
returns-clause-changes c = λ i. record { l2 = c.new.ensures i; host = c.in_ok-host_for_host.ensures i; group = c.in_ok-pair_for_pair.ensures i; route = c.args.route }
