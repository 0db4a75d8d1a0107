use Rattle.journal_laws.proofs.WorldLaws.{world_own}
use Rattle.journal_laws.proofs.WorldsFound.{numbers-numbered}
use Rattle.journal_laws.proofs.world.callers_submit_in_their_order.Goals as goal

pub returns-clause-numbers : goal.returns-clause-numbers
returns-clause-numbers c = numbers-numbered

pub returns-clause-own : goal.returns-clause-own
returns-clause-own c = world_own
