use Rattle.std.specs.List.{Contains}
use Rattle.route_laws.proofs.MovedLaws.{entries-stay, affected-covers, affected-least, contained-covers}
use Rattle.route_laws.specs.Moved.{IsAffected}
use Rattle.route_laws.proofs.moved.unaffected_entries_stay.Goals as goal

pub returns-clause-stay : goal.returns-clause-stay
returns-clause-stay c = λ old new moved are_new has. entries-stay old new (λ key. IsAffected old new (Contains moved) key.vrf key.prefix) are_new (affected-covers old new (Contains moved) has)

pub returns-clause-least : goal.returns-clause-least
returns-clause-least c = λ old new moved keys. affected-least old new (Contains moved) (Contains keys)

pub returns-clause-contained : goal.returns-clause-contained
returns-clause-contained c = λ old new keys are_new has closed. entries-stay old new (Contains keys) are_new (contained-covers old new (Contains keys) has closed)
