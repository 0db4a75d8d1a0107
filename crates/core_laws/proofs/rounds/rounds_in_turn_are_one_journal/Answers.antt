use Rattle.core_laws.proofs.SettledLaws.{runs_base, runs_caps, runs_follow, runs_journal}
use Rattle.core_laws.proofs.rounds.rounds_in_turn_are_one_journal.Goals as goal

pub returns-clause-journal : goal.returns-clause-journal
returns-clause-journal c = runs_journal

pub returns-clause-follows : goal.returns-clause-follows
returns-clause-follows c = runs_follow

pub returns-clause-base : goal.returns-clause-base
returns-clause-base c = runs_base

pub returns-clause-caps : goal.returns-clause-caps
returns-clause-caps c = runs_caps
