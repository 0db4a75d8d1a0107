use Rattle.std.proofs.Common.{arith}
use Rattle.node_key.proofs.Words.{floor_low, floor_middle, floor_high}
use Rattle.node_key.proofs.key.NodeKey.floor.Goals as goal

pub returns-then-width-lt64 : goal.returns-then-width-lt64
returns-then-width-lt64 c =
    rw c.from-by.ensures (floor_low c.self.inside.high c.self.inside.middle c.self.inside.low c.args.width c.self.view_is c.if-width-lt64.true c.self.invariant.1)

pub returns-then-width-lt128 : goal.returns-then-width-lt128
returns-then-width-lt128 c =
    rw c.from-by-then-width-lt128.ensures (floor_middle c.self.inside.high c.self.inside.middle c.self.inside.low c.args.width c.self.view_is c.if-width-lt64.false c.if-width-lt128.true c.self.invariant.0 c.self.invariant.1)

pub returns-then-width-lt192 : goal.returns-then-width-lt192
returns-then-width-lt192 c =
    rw c.from-by-then-width-lt192.ensures (floor_high c.self.inside.high c.self.inside.middle c.self.inside.low c.args.width c.self.view_is c.if-width-lt128.false (omega arith) c.self.invariant.0 c.self.invariant.1)
