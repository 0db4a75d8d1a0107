use Rattle.journal_laws.proofs.WorldsFound.{world_of_journal}
use Rattle.journal_laws.proofs.world.each_journal_is_some_worlds.Goals as goal

pub returns : goal.returns
returns c = world_of_journal
