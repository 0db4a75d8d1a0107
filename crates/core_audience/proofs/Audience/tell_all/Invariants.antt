use Rattle.core_audience.proofs.Hearing.{AreTold}
use Rattle.core_audience.proofs.Audience.tell_all.Given as goal

abbrev pub invariant-loop-n : goal.invariant-loop-n
invariant-loop-n g l = AreTold l.n l.state l.fn.self l.self l.shares.items
