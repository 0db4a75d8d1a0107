use Rattle.std.proofs.Common.{◌≡◌, ◌<◌, Bool, true, false, IsTrue, not, [], length, refl, arith}
use Rattle.sorted_table.specs.Chunks.{parts}
use Rattle.sorted_table.proofs.ChunkLaws.{below_here, count_parts, has_rows, rows_at}
use Rattle.sorted_table.proofs.chunks.is_behind.Goals as goal

untrue : (b : Bool) → IsTrue (not b) → b ≡ false
untrue true is = absurd (cc)
untrue false is = refl

pub returns : goal.returns
returns g c is =
    let chunks = c.args.chunks.now in
    let at = c.args.at in
    let there : at < length (parts chunks) = omega (arith, c.requires.within, count_parts chunks) in
    let rows = rows_at chunks at c.index-chunks-at.result c.requires.within c.index-chunks-at.is in
    let some = has_rows (parts chunks) at [] c.requires.parted.filled (omega (arith, c.if-at-eq0.false)) there in
    below_here g.K.Ord.cmp g.met.K.Ord.total c.args.key.now at (parts chunks) [] there c.requires.parted.ascends some (λ below. c.is_above.ensures.not (untrue c.is_above.result is) (rw rows some) (rw rows below))
