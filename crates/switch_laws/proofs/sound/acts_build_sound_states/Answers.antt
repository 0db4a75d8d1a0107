use Rattle.switch_laws.proofs.SoundLaws.{sound-built, sound-laid}
use Rattle.switch_laws.proofs.sound.acts_build_sound_states.Goals as goal

pub returns-clause-built : goal.returns-clause-built
returns-clause-built c = sound-built

pub returns-clause-more : goal.returns-clause-more
returns-clause-more c = sound-laid
