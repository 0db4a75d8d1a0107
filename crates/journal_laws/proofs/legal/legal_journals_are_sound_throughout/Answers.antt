use Rattle.journal_laws.proofs.SoundEnds.{sound_upto}
use Rattle.journal_laws.proofs.legal.legal_journals_are_sound_throughout.Goals as goal

pub returns : goal.returns
returns c = sound_upto
