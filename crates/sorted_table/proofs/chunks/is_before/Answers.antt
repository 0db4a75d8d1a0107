use Rattle.std.proofs.Common.{◌<◌, ◌+◌, [], length, subst, arith}
use Rattle.keyed.specs.Keyed.{IsBelow}
use Rattle.sorted_table.specs.Chunks.{parts}
use Rattle.sorted_table.proofs.ChunkLaws.{above_here, count_parts, has_rows, rows_at}
use Rattle.sorted_table.proofs.chunks.is_before.Goals as goal

pub returns-in-Some : goal.returns-in-Some
returns-in-Some g c is =
    let chunks = c.args.chunks.now in
    let at = c.args.at in
    let next = c.in-Some.ensures.lookup in
    let lt : at + 1 < length chunks = omega (arith, next.0) in
    let there : at + 1 < length (parts chunks) = omega (arith, lt, count_parts chunks) in
    let rows = rows_at chunks (at + 1) c.in-Some.next.now lt next.1 in
    let some = has_rows (parts chunks) (at + 1) [] c.requires.parted.filled (omega arith) there in
    above_here g.K.Ord.cmp g.met.K.Ord.total c.args.key.now (at + 1) (parts chunks) [] there some (subst (λ l. IsBelow g.K.Ord.cmp c.args.key.now l) rows (c.is_above.ensures.above is))
