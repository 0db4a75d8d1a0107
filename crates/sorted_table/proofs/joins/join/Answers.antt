use Rattle.std.proofs.Common.{◌<◌, ◌+◌, ◌++◌, [], get_or, length, set, sym, ap, subst, ◌∙◌, arith}
use Rattle.std.proofs.lemmas.List.Edits.{get_or-remove_below}
use Rattle.sorted_table.specs.Chunks.{IsJoined, parts}
use Rattle.sorted_table.proofs.ChunkLaws.{count_parts, remove_parts, rows_at, set_parts}
use Rattle.sorted_table.proofs.FilledLaws.{joined_next}
use Rattle.sorted_table.proofs.joins.join.Goals as goal

pub returns-clause-joined : goal.returns-clause-joined
returns-clause-joined g c =
    let chunks = c.args.chunks.now.items in
    let at = c.args.at in
    let left = c.remove-next.new.self.items in
    let here = c.index_mut.result.now in
    let same = ap parts c.remove-next.ensures.items ∙ remove_parts chunks (at + 1) in
    let next_is = rows_at chunks (at + 1) c.remove-next.result (omega (arith, c.requires.next)) c.remove-next.ensures.value in
    let there : at + 1 < length (parts chunks) = omega (arith, c.requires.next, count_parts chunks) in
    let here_is = rows_at left at here (omega (arith, c.requires.next, c.remove-next.ensures.len)) c.index_mut.ensures.value ∙ ap (λ l. get_or l at []) same ∙ get_or-remove_below (parts chunks) (at + 1) [] at (omega arith) there in
    let rows = c.absorb.ensures.rows ∙ ap (λ l. l ++ c.remove-next.result.rows.items) here_is ∙ ap (λ l. get_or (parts chunks) at [] ++ l) next_is in
    subst (λ l. IsJoined at (parts chunks) l) (sym (set_parts left at c.absorb.new.self ∙ ap (λ l. set l at c.absorb.new.self.rows.items) same)) (joined_next at (parts chunks) c.absorb.new.self.rows.items there c.requires.filled rows)
