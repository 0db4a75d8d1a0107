use Rattle.core_laws.proofs.OpenLaws.{chip_fits}
use Rattle.core_laws.proofs.cores.chips_hold_what_fits.Goals as goal

pub returns : goal.returns
returns c = chip_fits
