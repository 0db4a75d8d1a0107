use Rattle.std.proofs.Common.{◌≡◌, ◌<◌, ◌+◌, IsSome, [], drop, get_or, length, sym, ap, subst, take, ◌∙◌, arith}
use Rattle.std.proofs.lemmas.List.{drop-set-lt, take-set}
use Rattle.keyed.specs.Keyed.{Ascends, at, without}
use Rattle.sorted_table.specs.Chunks.{AreFilled, joined, parts}
use Rattle.sorted_table.proofs.ChunkLaws.{count_parts, rows_at, set_parts}
use Rattle.sorted_table.proofs.EditLaws.{IsHome, ascends-without, ascends_home, at_home, filled_back, filled_front, without_home}
use Rattle.sorted_table.proofs.edits.cut_from.Given as given
use Rattle.sorted_table.proofs.edits.cut_from.Goals as goal

pub cut-old-requires-clause-ascends : goal.cut-old-requires-clause-ascends
cut-old-requires-clause-ascends g c =
    let chunks = c.args.chunks.now.items in
    let here = rows_at chunks c.args.place c.index_mut.result.now (omega (arith, c.requires.within)) c.index_mut.ensures.value in
    let within : c.args.place < length (parts chunks) = omega (arith, c.requires.within, count_parts chunks) in
    subst (λ l. Ascends g.K.Ord.cmp l) (sym here) (ascends_home g.K.Ord.cmp g.met.K.Ord.total c.args.place (parts chunks) within c.requires.parted.ascends)

pub cut-old-requires-clause-there : goal.cut-old-requires-clause-there
cut-old-requires-clause-there g c =
    let cmp = g.K.Ord.cmp in
    let chunks = c.args.chunks.now.items in
    let here = rows_at chunks c.args.place c.index_mut.result.now (omega (arith, c.requires.within)) c.index_mut.ensures.value in
    let home : IsHome cmp g.met.K.Ord.total c.args.key.now c.args.place (parts chunks) = record { within = omega (arith, c.requires.within, count_parts chunks); below = c.requires.below; above = c.requires.above } in
    subst (λ o. IsSome o) (at_home cmp g.met.K.Ord.total c.args.key.now c.args.place (parts chunks) home ∙ ap (λ l. at cmp c.args.key.now l) (sym here)) c.requires.there

pub join_next-requires-clause-filled : goal.join_next-requires-clause-filled
join_next-requires-clause-filled g c =
    let chunks = c.args.chunks.now.items in
    let rows = c.cut-old.new.self.rows.items in
    let same = ap (λ l. drop (c.args.place + 1) l) (set_parts chunks c.args.place c.cut-old.new.self) ∙ drop-set-lt (c.args.place + 1) (parts chunks) c.args.place rows (omega arith) in
    subst (λ l. AreFilled l) (sym same) (filled_back (c.args.place + 1) (parts chunks) c.requires.parted.filled)

pub join_before-requires-clause-before : goal.join_before-requires-clause-before
join_before-requires-clause-before g c =
    let chunks = c.args.chunks.now.items in
    let rows = c.cut-old.new.self.rows.items in
    let same = c.join_next.ensures.joined.before ∙ ap (λ l. take c.args.place l) (set_parts chunks c.args.place c.cut-old.new.self) ∙ take-set (parts chunks) c.args.place rows in
    subst (λ l. AreFilled l) (sym same) (filled_front c.args.place (parts chunks) c.requires.parted.filled)

home : (g : given.Over) (c : goal.After-join_before g) → IsHome g.K.Ord.cmp g.met.K.Ord.total c.args.key.now c.args.place (parts c.args.chunks.now.items)
home g c = record { within = omega (arith, c.requires.within, count_parts c.args.chunks.now.items); below = c.requires.below; above = c.requires.above }

here : (g : given.Over) (c : goal.After-join_before g) → c.index_mut.result.now.rows.items ≡ get_or (parts c.args.chunks.now.items) c.args.place []
here g c = rows_at c.args.chunks.now.items c.args.place c.index_mut.result.now (omega (arith, c.requires.within)) c.index_mut.ensures.value

pub returns-clause-old : goal.returns-clause-old
returns-clause-old g c =
    let cmp = g.K.Ord.cmp in
    at_home cmp g.met.K.Ord.total c.args.key.now c.args.place (parts c.args.chunks.now.items) (home g c) ∙ ap (λ l. at cmp c.args.key.now l) (sym (here g c)) ∙ c.cut-old.ensures.old

-- the rows without the one that was taken out
rows : (g : given.Over) (c : goal.After-join_before g) → joined (parts c.join_before.new.chunks.items) ≡ without g.K.Ord.cmp c.args.key.now (joined (parts c.args.chunks.now.items))
rows g c =
    let cmp = g.K.Ord.cmp in
    let chunks = c.args.chunks.now.items in
    let made = c.cut-old.ensures.rows ∙ ap (λ l. without cmp c.args.key.now l) (here g c) in
    c.join_before.ensures.rows
    ∙ c.join_next.ensures.joined.rows
    ∙ ap joined (set_parts chunks c.args.place c.cut-old.new.self)
    ∙ without_home cmp g.met.K.Ord.total c.args.key.now c.args.place (parts chunks) c.cut-old.new.self.rows.items (home g c) made

pub returns-clause-rows : goal.returns-clause-rows
returns-clause-rows g c = rows g c

pub returns-clause-parted : goal.returns-clause-parted
returns-clause-parted g c =
    let cmp = g.K.Ord.cmp in
    record {
      ascends = subst (λ l. Ascends cmp l) (sym (rows g c)) (ascends-without cmp g.met.K.Ord.total c.args.key.now (joined (parts c.args.chunks.now.items)) c.requires.parted.ascends);
      filled = c.join_before.ensures.filled;
      some = omega (arith, count_parts c.join_before.new.chunks.items, c.join_before.ensures.some);
    }
