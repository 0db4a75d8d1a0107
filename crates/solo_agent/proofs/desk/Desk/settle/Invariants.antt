use Rattle.std.proofs.Common.{◌-◌, suc}
use Rattle.solo_agent.proofs.DeskLaws.{IsOnWay}
use Rattle.solo_agent.specs.Views.{journal}
use Rattle.switch_model.specs.Journal.{len}
use Rattle.solo_agent.proofs.desk.Desk.settle.Given as goal

abbrev pub decreases-loop-alloc : goal.decreases-loop-alloc
decreases-loop-alloc g l = suc l.position - len (journal l.self)

abbrev pub invariant-loop-alloc : goal.invariant-loop-alloc
invariant-loop-alloc g l = IsOnWay l.position l.fn.self l.self
