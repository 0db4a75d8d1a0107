use Rattle.state_counts.specs.Counted.{ports_up}
use Rattle.state_counts.proofs.CountLaws.{IsCounting}
use Rattle.state_counts.proofs.counting.count_up.Given as goal

abbrev pub invariant-loop-node : goal.invariant-loop-node
invariant-loop-node l = IsCounting l.count (ports_up l.node-iterator) (ports_up l.fn.ports.entries)
