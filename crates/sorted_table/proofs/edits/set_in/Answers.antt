use Rattle.std.proofs.Common.{IsSome, sym, ap, subst, ◌∙◌, arith}
use Rattle.keyed.specs.Keyed.{Ascends, at, put}
use Rattle.sorted_table.specs.Chunks.{IsParted, joined, parts}
use Rattle.sorted_table.proofs.ChunkLaws.{count_parts, rows_at, set_parts}
use Rattle.sorted_table.proofs.EditLaws.{IsHome, ascends_home, at_home, parted_put, put_home}
use Rattle.sorted_table.proofs.edits.set_in.Goals as goal

pub set-requires-clause-ascends : goal.set-requires-clause-ascends
set-requires-clause-ascends g c =
    let cmp = g.K.Ord.cmp in
    let key = c.args.key.now in
    let chunks = c.args.chunks.now.items in
    let here = rows_at chunks c.args.place c.index_mut.result.now (omega (arith, c.requires.within)) c.index_mut.ensures.value in
    let home : IsHome cmp g.met.K.Ord.total key c.args.place (parts chunks) = record { within = omega (arith, c.requires.within, count_parts chunks); below = c.requires.below; above = c.requires.above } in
    subst (λ l. Ascends cmp l) (sym here) (ascends_home cmp g.met.K.Ord.total c.args.place (parts chunks) home.within c.requires.parted.ascends)

pub set-requires-clause-there : goal.set-requires-clause-there
set-requires-clause-there g c =
    let cmp = g.K.Ord.cmp in
    let key = c.args.key.now in
    let chunks = c.args.chunks.now.items in
    let here = rows_at chunks c.args.place c.index_mut.result.now (omega (arith, c.requires.within)) c.index_mut.ensures.value in
    let home : IsHome cmp g.met.K.Ord.total key c.args.place (parts chunks) = record { within = omega (arith, c.requires.within, count_parts chunks); below = c.requires.below; above = c.requires.above } in
    subst (λ o. IsSome o) (at_home cmp g.met.K.Ord.total key c.args.place (parts chunks) home ∙ ap (λ l. at cmp key l) (sym here)) c.requires.there

pub returns-clause-old : goal.returns-clause-old
returns-clause-old g c =
    let cmp = g.K.Ord.cmp in
    let key = c.args.key.now in
    let chunks = c.args.chunks.now.items in
    let here = rows_at chunks c.args.place c.index_mut.result.now (omega (arith, c.requires.within)) c.index_mut.ensures.value in
    let home : IsHome cmp g.met.K.Ord.total key c.args.place (parts chunks) = record { within = omega (arith, c.requires.within, count_parts chunks); below = c.requires.below; above = c.requires.above } in
    at_home cmp g.met.K.Ord.total key c.args.place (parts chunks) home ∙ ap (λ l. at cmp key l) (sym here) ∙ c.set.ensures.old

pub returns-clause-rows : goal.returns-clause-rows
returns-clause-rows g c =
    let cmp = g.K.Ord.cmp in
    let key = c.args.key.now in
    let chunks = c.args.chunks.now.items in
    let here = rows_at chunks c.args.place c.index_mut.result.now (omega (arith, c.requires.within)) c.index_mut.ensures.value in
    let home : IsHome cmp g.met.K.Ord.total key c.args.place (parts chunks) = record { within = omega (arith, c.requires.within, count_parts chunks); below = c.requires.below; above = c.requires.above } in
    let made = c.set.ensures.rows ∙ ap (λ l. put cmp key c.args.value l) here in
    ap joined (set_parts chunks c.args.place c.set.new.self) ∙ put_home cmp g.met.K.Ord.total key c.args.value c.args.place (parts chunks) c.set.new.self.rows.items home made

pub returns-clause-parted : goal.returns-clause-parted
returns-clause-parted g c =
    let cmp = g.K.Ord.cmp in
    let key = c.args.key.now in
    let chunks = c.args.chunks.now.items in
    let here = rows_at chunks c.args.place c.index_mut.result.now (omega (arith, c.requires.within)) c.index_mut.ensures.value in
    let home : IsHome cmp g.met.K.Ord.total key c.args.place (parts chunks) = record { within = omega (arith, c.requires.within, count_parts chunks); below = c.requires.below; above = c.requires.above } in
    let made = c.set.ensures.rows ∙ ap (λ l. put cmp key c.args.value l) here in
    subst (λ l. IsParted cmp l) (sym (set_parts chunks c.args.place c.set.new.self)) (parted_put cmp g.met.K.Ord.total key c.args.value c.args.place (parts chunks) c.set.new.self.rows.items home c.requires.parted made)
