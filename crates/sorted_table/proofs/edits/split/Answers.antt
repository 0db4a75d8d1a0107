use Rattle.std.proofs.Common.{◌≡◌, ◌<◌, ◌+◌, ◌++◌, [], drop, get_or, length, set, sym, ap, subst, suc, ◌∙◌, arith}
use Rattle.std.specs.List.{insert}
use Rattle.keyed.specs.Keyed.{Ascends, put}
use Rattle.sorted_table.specs.Chunks.{parts}
use Rattle.sorted_table.proofs.ChunkLaws.{count_parts, insert_parts, rows_at, set_parts}
use Rattle.sorted_table.proofs.EditLaws.{IsHome, IsSplit, ascends_home, put_home, split_at}
use Rattle.sorted_table.proofs.FilledLaws.{next_is}
use Rattle.sorted_table.proofs.edits.split.Given as given
use Rattle.sorted_table.proofs.edits.split.Goals as goal

pub put_half-requires-clause-ascends : goal.put_half-requires-clause-ascends
put_half-requires-clause-ascends g c =
    let chunks = c.args.chunks.now.items in
    let here = rows_at chunks c.args.place c.index_mut.result.now (omega (arith, c.requires.within)) c.index_mut.ensures.value in
    let within : c.args.place < length (parts chunks) = omega (arith, c.requires.within, count_parts chunks) in
    subst (λ l. Ascends g.K.Ord.cmp l) (sym here) (ascends_home g.K.Ord.cmp g.met.K.Ord.total c.args.place (parts chunks) within c.requires.ascends)

within : (g : given.Over) (c : goal.After-insert_at g) → c.args.place < length (parts c.args.chunks.now.items)
within g c = omega (arith, c.requires.within, count_parts c.args.chunks.now.items)

home : (g : given.Over) (c : goal.After-insert_at g) → IsHome g.K.Ord.cmp g.met.K.Ord.total c.args.key c.args.place (parts c.args.chunks.now.items)
home g c = record { within = within g c; below = c.requires.below; above = c.requires.above }

here : (g : given.Over) (c : goal.After-insert_at g) → c.index_mut.result.now.rows.items ≡ get_or (parts c.args.chunks.now.items) c.args.place []
here g c = rows_at c.args.chunks.now.items c.args.place c.index_mut.result.now (omega (arith, c.requires.within)) c.index_mut.ensures.value

-- the rows of both halves
both : (g : given.Over) (c : goal.After-insert_at g) → c.put_half.new.lower.rows.items ++ c.put_half.new.upper.rows.items ≡ put g.K.Ord.cmp c.args.key c.args.value (get_or (parts c.args.chunks.now.items) c.args.place [])
both g c = c.put_half.ensures.rows ∙ ap (λ l. put g.K.Ord.cmp c.args.key c.args.value l) (here g c)

made : (g : given.Over) (c : goal.After-insert_at g) → parts c.insert_at.new.list.items ≡ insert (set (parts c.args.chunks.now.items) c.args.place c.put_half.new.lower.rows.items) (c.args.place + 1) c.put_half.new.upper.rows.items
made g c =
    let chunks = c.args.chunks.now.items in
    let lower = c.put_half.new.lower in
    let upper = c.put_half.new.upper in
    ap parts c.insert_at.ensures.items ∙ insert_parts (set chunks c.args.place lower) (c.args.place + 1) upper ∙ ap (λ l. insert l (c.args.place + 1) upper.rows.items) (set_parts chunks c.args.place lower)

is_split : (g : given.Over) (c : goal.After-insert_at g) → IsSplit c.args.place (parts c.args.chunks.now.items) (parts c.insert_at.new.list.items) c.put_half.new.lower.rows.items c.put_half.new.upper.rows.items
is_split g c =
    let ps = parts c.args.chunks.now.items in
    let lower = c.put_half.new.lower.rows.items in
    let upper = c.put_half.new.upper.rows.items in
    let is = made g c ∙ ap (λ n. insert (set ps c.args.place lower) n upper) (next_is c.args.place) in
    subst (λ l. IsSplit c.args.place ps l lower upper) (sym is) (split_at c.args.place ps lower upper (within g c))

pub returns-clause-rows : goal.returns-clause-rows
returns-clause-rows g c =
    let lower = c.put_half.new.lower.rows.items in
    let upper = c.put_half.new.upper.rows.items in
    (is_split g c).rows ∙ put_home g.K.Ord.cmp g.met.K.Ord.total c.args.key c.args.value c.args.place (parts c.args.chunks.now.items) (lower ++ upper) (home g c) (both g c)

pub returns-clause-before : goal.returns-clause-before
returns-clause-before g c = (is_split g c).before

pub returns-clause-behind : goal.returns-clause-behind
returns-clause-behind g c =
    let new = parts c.insert_at.new.list.items in
    let two : c.args.place + 2 ≡ suc (suc c.args.place) = omega arith in
    ap (λ n. drop n new) two ∙ (is_split g c).behind ∙ ap (λ n. drop n (parts c.args.chunks.now.items)) (sym (next_is c.args.place))

pub returns-clause-lower : goal.returns-clause-lower
returns-clause-lower g c = omega (arith, ap length (is_split g c).at, c.put_half.ensures.lower)

pub returns-clause-upper : goal.returns-clause-upper
returns-clause-upper g c =
    let new = parts c.insert_at.new.list.items in
    omega (arith, ap length (ap (λ n. get_or new n []) (next_is c.args.place) ∙ (is_split g c).next), c.put_half.ensures.upper)
