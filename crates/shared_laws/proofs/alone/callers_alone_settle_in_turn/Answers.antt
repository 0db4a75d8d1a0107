use Rattle.shared_laws.proofs.AloneLaws.{alone_none, alone_pumped, alone_same, alone_seen, alone_settled}
use Rattle.shared_laws.proofs.alone.callers_alone_settle_in_turn.Goals as goal

pub returns-clause-seen : goal.returns-clause-seen
returns-clause-seen c = alone_seen

pub returns-clause-look : goal.returns-clause-look
returns-clause-look c = alone_same

pub returns-clause-settled : goal.returns-clause-settled
returns-clause-settled c = alone_settled

pub returns-clause-pumped : goal.returns-clause-pumped
returns-clause-pumped c = λ g p q k a b one two mine counted. (alone_pumped g p q k a b one two mine counted).0

pub returns-clause-size : goal.returns-clause-size
returns-clause-size c = λ g p q k a b one two mine counted. (alone_pumped g p q k a b one two mine counted).1

pub returns-clause-none : goal.returns-clause-none
returns-clause-none c = alone_none
