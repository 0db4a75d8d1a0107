use Rattle.std.proofs.Common.{◌≤◌, refl, arith}
use Rattle.told_laws.proofs.ClosingLaws.{told_grows}
use Rattle.told_laws.proofs.callers.what_was_told_stays_true.Goals as goal

pub returns : goal.returns
returns c = λ limit n m mine j k rounds i done ts more begins has. told_grows (limit ≤ n) (limit ≤ m) mine mine j k rounds i done ts (λ le. omega (arith, le, more)) begins refl has
