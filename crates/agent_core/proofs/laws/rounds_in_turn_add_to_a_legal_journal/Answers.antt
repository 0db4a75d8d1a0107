use Rattle.agent_core.proofs.TurnLaws.{turns_add, turns_join, turns_legal, turns_rise}
use Rattle.agent_core.proofs.laws.rounds_in_turn_add_to_a_legal_journal.Goals as goal

pub returns-clause-legal : goal.returns-clause-legal
returns-clause-legal c = turns_legal

pub returns-clause-added : goal.returns-clause-added
returns-clause-added c = turns_add

pub returns-clause-version : goal.returns-clause-version
returns-clause-version c = turns_rise

pub returns-clause-joined : goal.returns-clause-joined
returns-clause-joined c = turns_join
