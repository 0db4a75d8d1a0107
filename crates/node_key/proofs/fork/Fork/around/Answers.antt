use Rattle.std.proofs.Common.{arith, refl}
use Rattle.node_key.proofs.Floor.{first_bracket, fork_before, fork_after, fork_by_split}
use Rattle.node_key.proofs.fork.Fork.around.Goals as goal

pub loop-above-init : goal.loop-above-init
loop-above-init c = record {
  bracket = first_bracket c.requires.aligned c.requires.within c.requires.outside;
  from = omega arith;
  to = omega arith;
}

pub returns-then-is_before : goal.returns-then-is_before
returns-then-is_before c =
    fork_by_split (fork_before c.requires.aligned c.loop-above.invariant.bracket c.loop-above.invariant.from c.loop-above.invariant.to c.loop-above-test.false c.is_before.ensures c.if-is_before.true refl c.floor.ensures)

pub returns-else-is_before : goal.returns-else-is_before
returns-else-is_before c =
    fork_by_split (fork_after c.requires.aligned c.loop-above.invariant.bracket c.loop-above.invariant.from c.loop-above.invariant.to c.loop-above-test.false c.is_before.ensures c.if-is_before.false refl c.floor-else-is_before.ensures)
