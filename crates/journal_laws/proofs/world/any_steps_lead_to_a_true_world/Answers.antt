use Rattle.journal_laws.proofs.SoundEnds.{world_sound}
use Rattle.journal_laws.proofs.WorldLaws.{world_kept}
use Rattle.journal_laws.proofs.world.any_steps_lead_to_a_true_world.Goals as goal

pub returns-clause-world : goal.returns-clause-world
returns-clause-world c = world_kept

pub returns-clause-sound : goal.returns-clause-sound
returns-clause-sound c = world_sound
