use Rattle.std.proofs.Common.{◌≡◌, ◌<◌, ◌+◌, ◌-◌, length, subst, take, arith}
use Rattle.sorted_table.specs.Chunks.{AreFilled, parts}
use Rattle.sorted_table.proofs.ChunkLaws.{count_parts}
use Rattle.sorted_table.proofs.FilledLaws.{filled_again}
use Rattle.sorted_table.proofs.joins.join_before.Goals as goal

pub returns-then-at-gt0-clause-filled : goal.returns-then-at-gt0-clause-filled
returns-then-at-gt0-clause-filled g c =
    let at = c.args.at in
    let old = parts c.args.chunks.now.items in
    let next : at ≡ (at - 1) + 1 = omega (arith, c.if-at-gt0.true) in
    let within : at - 1 < length old = omega (arith, c.if-at-gt0.true, c.requires.within, count_parts c.args.chunks.now.items) in
    filled_again (at - 1) old (parts c.join_next.new.chunks.items) within (subst (λ n. AreFilled (take n old)) next c.requires.before) c.join_next.ensures.joined
