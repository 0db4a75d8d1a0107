use Rattle.told_laws.proofs.ToldLaws.{solo_all, solo_kept, solo_opening}
use Rattle.told_laws.proofs.solo.solo_is_reached.Goals as goal

pub returns-clause-may_come : goal.returns-clause-may_come
returns-clause-may_come c = λ script opening fits is. (solo_kept script opening fits is).course.may_come

pub returns-clause-settled : goal.returns-clause-settled
returns-clause-settled c = solo_all

pub returns-clause-limit : goal.returns-clause-limit
returns-clause-limit c = λ script opening fits is. (solo_kept script opening fits is).course.few

pub returns-clause-opening : goal.returns-clause-opening
returns-clause-opening c = solo_opening
