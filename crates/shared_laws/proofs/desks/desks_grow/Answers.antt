use Rattle.std.proofs.Common.{◌++◌, ◌∷◌, [], refl}
use Rattle.shared_laws.proofs.DeskLaws.{desk_grows, desk_settles, desk_starts}
use Rattle.shared_laws.proofs.desks.desks_grow.Goals as goal

pub returns-clause-start : goal.returns-clause-start
returns-clause-start c = desk_starts

pub returns-clause-submission : goal.returns-clause-submission
returns-clause-submission c = λ d s below is. desk_grows d.basis d.sent (d.sent ++ s ∷ []) d.rounds s refl below is

pub returns-clause-round : goal.returns-clause-round
returns-clause-round c = λ d r next is. desk_settles d.basis d.sent d.rounds (d.rounds ++ r ∷ []) r refl next is
