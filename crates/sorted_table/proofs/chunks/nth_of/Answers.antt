use Rattle.std.proofs.Common.{sym, ◌∙◌, ap, ◌+◌, ◌-◌, ◌≤◌, ◌<◌, length, drop, subst}
use Rattle.std.specs.List.{slice_get}
use Rattle.sorted_table.specs.Chunks.{joined, parts}
use Rattle.sorted_table.proofs.ChunkLaws.{nth_here, nth_later}
use Rattle.sorted_table.proofs.chunks.nth_of.Goals as goal

pub returns-then-left-len : goal.returns-then-left-len
returns-then-left-len g c =
    let l = c.loop-chunk in
    let chunk = c.chunk-item.result in
    let within : l.left < length chunk.rows.items = subst (λ n. l.left < n) c.len.ensures c.if-left-len.true in
    c.at.ensures ∙ sym (nth_here c.args.chunks.now l.chunk-index l.left chunk c.loop-chunk-test.true c.chunk-item.is within) ∙ l.invariant

pub loop-chunk-preserved : goal.loop-chunk-preserved
loop-chunk-preserved g c =
    let l = c.loop-chunk in
    let chunk = c.chunk-item.result in
    let past : length chunk.rows.items ≤ l.left = subst (λ n. n ≤ l.left) c.len.ensures c.if-left-len.false in
    ap (λ n. slice_get (joined (drop (l.chunk-index + 1) (parts c.args.chunks.now))) (l.left - n)) c.len-left.ensures
    ∙ sym (nth_later c.args.chunks.now l.chunk-index l.left chunk c.loop-chunk-test.true c.chunk-item.is past) ∙ l.invariant
