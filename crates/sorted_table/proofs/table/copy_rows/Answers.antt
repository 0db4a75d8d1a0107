use Rattle.std.proofs.Common.{◌<◌, ◌+◌, ◌++◌, [], get_or, length, take, sym, ap, ◌∙◌, append_assoc, arith}
use Rattle.std.proofs.lemmas.List.{take_all}
use Rattle.sorted_table.specs.Chunks.{joined, parts}
use Rattle.sorted_table.proofs.ChunkLaws.{count_parts, rows_at, take_parts}
use Rattle.sorted_table.proofs.EditLaws.{joined_more}
use Rattle.sorted_table.proofs.table.copy_rows.Goals as goal

pub loop-chunk-preserved : goal.loop-chunk-preserved
loop-chunk-preserved g c =
    let chunks = c.args.chunks.now in
    let n = c.loop-chunk.chunk-index in
    let here = c.as_slice.ensures.value ∙ rows_at chunks n c.chunk-item.result c.loop-chunk-test.true c.chunk-item.is in
    let old = c.args.rows.now.items in
    let rest = joined (take n (parts chunks)) in
    let within : n < length (parts chunks) = omega (arith, c.loop-chunk-test.true, count_parts chunks) in
    c.in_ok-extend_from_slice.ensures.items
    ∙ ap (λ l. l ++ c.as_slice.result.now) (c.loop-chunk.invariant ∙ ap (λ l. old ++ joined l) (take_parts chunks n))
    ∙ ap (λ l. (old ++ rest) ++ l) here
    ∙ append_assoc old rest (get_or (parts chunks) n [])
    ∙ ap (λ l. old ++ l) (sym (ap joined (take_parts chunks (n + 1)) ∙ joined_more n (parts chunks) [] within))

pub returns : goal.returns
returns g c =
    let chunks = c.args.chunks.now in
    c.loop-chunk.invariant ∙ ap (λ l. c.args.rows.now.items ++ joined (parts l)) (take_all c.loop-chunk.chunk-index chunks (omega (arith, c.loop-chunk-test.false)))
