use Rattle.std.proofs.Common.{◌<◌, ◌+◌, [], get_or, length, ap, arith}
use Rattle.sorted_table.specs.Chunks.{parts}
use Rattle.sorted_table.proofs.ChunkLaws.{count_parts, rows_at}
use Rattle.sorted_table.proofs.FilledLaws.{filled_by}
use Rattle.sorted_table.proofs.joins.may_join.Goals as goal

pub returns-in-Some-clause-not : goal.returns-in-Some-clause-not
returns-in-Some-clause-not g c not =
    let chunks = c.args.chunks.now in
    let at = c.args.at in
    let next = c.in-Some.ensures.lookup in
    let lt : at + 1 < length chunks = omega (arith, next.0) in
    let this = ap length (rows_at chunks at c.index-chunks-at.result c.requires c.index-chunks-at.is) in
    let that = ap length (rows_at chunks (at + 1) c.in-Some.next.now lt next.1) in
    filled_by (parts chunks) (at + 1) (get_or (parts chunks) at []) (omega (arith, lt, count_parts chunks)) (record {
      first = omega (arith, c.are_few.ensures.first not, c.len.ensures, this);
      second = omega (arith, c.are_few.ensures.second not, c.len-in-Some.ensures, that);
      both = omega (arith, c.are_few.ensures.both not, c.len.ensures, c.len-in-Some.ensures, this, that);
    })
