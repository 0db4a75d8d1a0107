use Rattle.std.proofs.Common.{◌<◌, ◌+◌, drop, length, sym, ap, subst, take, ◌∙◌, arith}
use Rattle.keyed.specs.Keyed.{Ascends, IsBelow, at}
use Rattle.sorted_table.specs.Chunks.{AreBelow, joined, parts}
use Rattle.sorted_table.proofs.ChunkLaws.{count_parts, rows_at}
use Rattle.sorted_table.proofs.EditLaws.{IsHome, ascends_home, at_home}
use Rattle.sorted_table.proofs.table.SortedTable.get.Goals as goal

pub get-requires : goal.get-requires
get-requires g c =
    let chunks = c.self.inside.chunks.items in
    let place = c.place_of-place.result in
    let there : place < length chunks = omega (arith, c.place_of-place.ensures.within, ap length c.as_slice.ensures.value) in
    let within : place < length (parts chunks) = omega (arith, there, count_parts chunks) in
    let here = rows_at chunks place c.index.result.now there c.index.ensures in
    subst (λ l. Ascends g.K.Ord.cmp l) (sym here) (ascends_home g.K.Ord.cmp g.met.K.Ord.total place (parts chunks) within c.self.invariant.parted.ascends)

pub returns : goal.returns
returns g c =
    let cmp = g.K.Ord.cmp in
    let key = c.args.key.now in
    let chunks = c.self.inside.chunks.items in
    let place = c.place_of-place.result in
    let there : place < length chunks = omega (arith, c.place_of-place.ensures.within, ap length c.as_slice.ensures.value) in
    let here = rows_at chunks place c.index.result.now there c.index.ensures in
    let home : IsHome cmp g.met.K.Ord.total key place (parts chunks) = record {
      within = omega (arith, there, count_parts chunks);
      below = subst (λ l. AreBelow cmp (joined (take place (parts l))) key) c.as_slice.ensures.value c.place_of-place.ensures.below;
      above = subst (λ l. IsBelow cmp key (joined (drop (place + 1) (parts l)))) c.as_slice.ensures.value c.place_of-place.ensures.above;
    } in
    c.get.ensures ∙ ap (λ l. at cmp key l) here ∙ sym (at_home cmp g.met.K.Ord.total key place (parts chunks) home) ∙ ap (λ v. at cmp key v.rows) c.self.view_is
