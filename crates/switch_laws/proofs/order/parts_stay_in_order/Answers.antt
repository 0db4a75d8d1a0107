use Rattle.switch_laws.proofs.OrderLaws.{effect-in_order, empty-in_order}
use Rattle.switch_laws.proofs.SoundLaws.{linked-from_sound}
use Rattle.switch_laws.proofs.order.parts_stay_in_order.Goals as goal

pub returns-clause-empty : goal.returns-clause-empty
returns-clause-empty c = empty-in_order

pub returns-clause-sound : goal.returns-clause-sound
returns-clause-sound c = λ m sound. (linked-from_sound m sound).in_order

pub returns-clause-effect : goal.returns-clause-effect
returns-clause-effect c = effect-in_order
