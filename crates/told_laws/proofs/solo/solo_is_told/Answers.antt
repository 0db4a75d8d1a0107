use Rattle.told_laws.proofs.ToldLaws.{solo_told}
use Rattle.told_laws.proofs.solo.solo_is_told.Goals as goal

pub returns : goal.returns
returns c = solo_told
