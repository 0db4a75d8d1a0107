use Rattle.chip_core.specs.ViewLaws.{image-chip}
use Rattle.chip_core.proofs.laws.chip_is_image.Goals as goal

pub returns : goal.returns
returns c = image-chip
