use Rattle.std.proofs.Common.{ap, length, arith}
use Rattle.keyed.specs.ValueLaws.{length-without_most}
use Rattle.sorted_table.proofs.chunk.Chunk.cut.Goals as goal

pub invariant_of-self : goal.invariant_of-self
invariant_of-self g c =
    let fewer = length-without_most g.K.Ord.cmp c.args.key.now c.args.self.now.rows.items in
    let is = ap length c.cut.ensures.new in
    record { fits = omega (arith, fewer, is, c.args.self.now.fits); has_room = omega (arith, c.cut.ensures.room, c.args.self.now.has_room) }
