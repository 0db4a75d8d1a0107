use Rattle.std.proofs.Common.{refl}
use Rattle.core_laws.proofs.OpenLaws.{adopt_core}
use Rattle.core_laws.proofs.cores.chips_that_show_the_rows_are_adopted.Goals as goal

pub returns : goal.returns
returns c = λ s raw caps writes before now sound fib follows chip view begun. adopt_core s _ raw caps caps writes before now refl sound fib follows chip view refl begun
