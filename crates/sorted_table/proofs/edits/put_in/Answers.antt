use Rattle.std.proofs.Common.{◌<◌, length, sym, ap, subst, ◌∙◌, arith}
use Rattle.keyed.specs.Keyed.{Ascends, put}
use Rattle.sorted_table.specs.Chunks.{IsParted, joined, parts}
use Rattle.sorted_table.proofs.ChunkLaws.{count_parts, rows_at, set_parts}
use Rattle.sorted_table.proofs.EditLaws.{IsHome, ascends_home, parted_put, put_home}
use Rattle.sorted_table.proofs.edits.put_in.Goals as goal

pub put-requires-clause-ascends : goal.put-requires-clause-ascends
put-requires-clause-ascends g c =
    let chunks = c.args.chunks.now.items in
    let here = rows_at chunks c.args.place c.index_mut.result.now (omega (arith, c.requires.within)) c.index_mut.ensures.value in
    let within : c.args.place < length (parts chunks) = omega (arith, c.requires.within, count_parts chunks) in
    subst (λ l. Ascends g.K.Ord.cmp l) (sym here) (ascends_home g.K.Ord.cmp g.met.K.Ord.total c.args.place (parts chunks) within c.requires.parted.ascends)

pub returns-clause-rows : goal.returns-clause-rows
returns-clause-rows g c =
    let cmp = g.K.Ord.cmp in
    let chunks = c.args.chunks.now.items in
    let here = rows_at chunks c.args.place c.index_mut.result.now (omega (arith, c.requires.within)) c.index_mut.ensures.value in
    let home : IsHome cmp g.met.K.Ord.total c.args.key c.args.place (parts chunks) = record { within = omega (arith, c.requires.within, count_parts chunks); below = c.requires.below; above = c.requires.above } in
    let made = c.put.ensures ∙ ap (λ l. put cmp c.args.key c.args.value l) here in
    ap joined (set_parts chunks c.args.place c.put.new.self) ∙ put_home cmp g.met.K.Ord.total c.args.key c.args.value c.args.place (parts chunks) c.put.new.self.rows.items home made

pub returns-clause-parted : goal.returns-clause-parted
returns-clause-parted g c =
    let cmp = g.K.Ord.cmp in
    let chunks = c.args.chunks.now.items in
    let here = rows_at chunks c.args.place c.index_mut.result.now (omega (arith, c.requires.within)) c.index_mut.ensures.value in
    let home : IsHome cmp g.met.K.Ord.total c.args.key c.args.place (parts chunks) = record { within = omega (arith, c.requires.within, count_parts chunks); below = c.requires.below; above = c.requires.above } in
    let made = c.put.ensures ∙ ap (λ l. put cmp c.args.key c.args.value l) here in
    subst (λ l. IsParted cmp l) (sym (set_parts chunks c.args.place c.put.new.self)) (parted_put cmp g.met.K.Ord.total c.args.key c.args.value c.args.place (parts chunks) c.put.new.self.rows.items home c.requires.parted made)
