use Rattle.std.proofs.Common.{◌∙◌, ap, arith}
use Rattle.sorted_table.specs.Chunks.{parts}
use Rattle.sorted_table.specs.Rows.{first_of}
use Rattle.sorted_table.proofs.ChunkLaws.{count_parts, rows_at}
use Rattle.sorted_table.proofs.EditLaws.{first_part}
use Rattle.sorted_table.proofs.table.SortedTable.first.Goals as goal

pub returns : goal.returns
returns g c =
    let chunks = c.self.inside.chunks.items in
    let some = c.self.invariant.parted.some in
    let here = rows_at chunks 0 c.index.result.now (omega (arith, some, count_parts chunks)) c.index.ensures in
    c.first.ensures ∙ first_part (parts chunks) c.index.result.now.rows.items c.self.invariant.parted.filled some here ∙ ap (λ v. first_of v.rows) c.self.view_is
