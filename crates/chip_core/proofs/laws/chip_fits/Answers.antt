use Rattle.chip_core.specs.ViewLaws.{fits-chip}
use Rattle.chip_core.proofs.laws.chip_fits.Goals as goal

pub returns : goal.returns
returns c = fits-chip
