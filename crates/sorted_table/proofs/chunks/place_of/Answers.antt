use Rattle.std.proofs.Common.{◌<◌, ◌+◌, ◌-◌, ◌/◌, [], length, subst, arith}
use Rattle.keyed.specs.Keyed.{IsBelow}
use Rattle.sorted_table.specs.Chunks.{parts}
use Rattle.sorted_table.proofs.ChunkLaws.{above_here, below_here, count_parts, has_rows, rows_at}
use Rattle.sorted_table.proofs.chunks.place_of.Goals as goal

pub loop-high-preserved-then-is_above : goal.loop-high-preserved-then-is_above
loop-high-preserved-then-is_above g c =
    let low = c.loop-high.low in
    let high = c.loop-high.high in
    let chunks = c.args.chunks.now in
    let middle = low + (high - low) / 2 in
    let within : middle < length chunks = omega (arith, c.loop-high-test.true, c.loop-high.invariant.within) in
    let there : middle < length (parts chunks) = omega (arith, within, count_parts chunks) in
    let rows = rows_at chunks middle c.index-chunks-middle.result within c.index-chunks-middle.is in
    let some = has_rows (parts chunks) middle [] c.requires.filled (omega (arith, c.loop-high-test.true)) there in
    record {
      order = omega (arith, c.loop-high-test.true);
      within = omega (arith, within);
      below = c.loop-high.invariant.below;
      above = above_here g.K.Ord.cmp g.met.K.Ord.total c.args.key.now middle (parts chunks) [] there some (subst (λ l. IsBelow g.K.Ord.cmp c.args.key.now l) rows (c.is_above.ensures.above c.if-is_above.true));
    }

pub loop-high-preserved : goal.loop-high-preserved
loop-high-preserved g c =
    let low = c.loop-high.low in
    let high = c.loop-high.high in
    let chunks = c.args.chunks.now in
    let middle = low + (high - low) / 2 in
    let within : middle < length chunks = omega (arith, c.loop-high-test.true, c.loop-high.invariant.within) in
    let there : middle < length (parts chunks) = omega (arith, within, count_parts chunks) in
    let rows = rows_at chunks middle c.index-chunks-middle.result within c.index-chunks-middle.is in
    let some = has_rows (parts chunks) middle [] c.requires.filled (omega (arith, c.loop-high-test.true)) there in
    record {
      order = omega (arith, c.loop-high-test.true);
      within = c.loop-high.invariant.within;
      below = below_here g.K.Ord.cmp g.met.K.Ord.total c.args.key.now middle (parts chunks) [] there c.requires.ascends some (λ below. c.is_above.ensures.not c.if-is_above.false (rw rows some) (rw rows below));
      above = c.loop-high.invariant.above;
    }
