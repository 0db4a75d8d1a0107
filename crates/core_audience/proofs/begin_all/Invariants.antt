use Rattle.std.proofs.Common.{map}
use Rattle.core_audience.proofs.Hearing.{AreBegun}
use Rattle.core_audience.proofs.begin_all.Given as goal

abbrev pub invariant-loop-n : goal.invariant-loop-n
invariant-loop-n g l = AreBegun l.n l.state (map g.O.StateObserver.watch l.fn.observers.list.items) (map g.O.StateObserver.watch l.observers.list.items) l.kept.items
