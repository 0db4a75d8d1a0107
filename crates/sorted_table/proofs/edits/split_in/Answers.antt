use Rattle.std.proofs.Common.{◌≡◌, ◌+◌, Some, drop, length, sym, ap, subst, ◌∙◌, arith}
use Rattle.std.proofs.lemmas.List.Elements.{All-pop}
use Rattle.keyed.specs.Keyed.{Ascends}
use Rattle.sorted_table.specs.Chunks.{AreFilled, joined, parts}
use Rattle.sorted_table.proofs.ChunkLaws.{count_parts}
use Rattle.sorted_table.proofs.EditLaws.{ascends-put, filled_back, filled_front, filled_pair, same_front}
use Rattle.sorted_table.proofs.edits.split_in.Goals as goal

pub split-requires-clause-empty : goal.split-requires-clause-empty
split-requires-clause-empty g c = (All-pop (λ x. length x.rows.items ≡ 0) c.args.spare.now.items c.pop.new.self.items (Some c.in-Some.upper) c.in-Some.ensures.items c.requires.empty).1

pub join_next-requires-clause-empty : goal.join_next-requires-clause-empty
join_next-requires-clause-empty g c = (All-pop (λ x. length x.rows.items ≡ 0) c.args.spare.now.items c.pop.new.self.items (Some c.in-Some.upper) c.in-Some.ensures.items c.requires.empty).0

pub join_next-requires-clause-filled : goal.join_next-requires-clause-filled
join_next-requires-clause-filled g c =
    let two : c.args.place + 1 + 1 ≡ c.args.place + 2 = omega arith in
    subst (λ l. AreFilled l) (sym (ap (λ n. drop n (parts c.split.new.chunks.items)) two ∙ c.split.ensures.behind)) (filled_back (c.args.place + 1) (parts c.args.chunks.now.items) c.requires.parted.filled)

pub join_before-requires-clause-before : goal.join_before-requires-clause-before
join_before-requires-clause-before g c =
    let place = c.args.place in
    let split = parts c.split.new.chunks.items in
    let next = parts c.join_next.new.chunks.items in
    let same = same_front place (place + 1) next split (omega arith) c.join_next.ensures.joined.before ∙ c.split.ensures.before in
    subst (λ l. AreFilled l) (sym same) (filled_front place (parts c.args.chunks.now.items) c.requires.parted.filled)

pub join_before-requires-clause-behind : goal.join_before-requires-clause-behind
join_before-requires-clause-behind g c =
    let split = parts c.split.new.chunks.items in
    filled_pair c.args.place split (parts c.join_next.new.chunks.items) (omega (arith, count_parts c.split.new.chunks.items, c.split.ensures.count, c.requires.within)) c.join_next.ensures.joined c.split.ensures.lower c.split.ensures.upper

pub returns-clause-rows : goal.returns-clause-rows
returns-clause-rows g c = c.join_before.ensures.rows ∙ c.join_next.ensures.joined.rows ∙ c.split.ensures.rows

pub returns-clause-parted : goal.returns-clause-parted
returns-clause-parted g c =
    let cmp = g.K.Ord.cmp in
    let ps = parts c.args.chunks.now.items in
    let rows = c.join_before.ensures.rows ∙ c.join_next.ensures.joined.rows ∙ c.split.ensures.rows in
    record {
      ascends = subst (λ l. Ascends cmp l) (sym rows) (ascends-put cmp g.met.K.Ord.total c.args.key c.args.value (joined ps) c.requires.parted.ascends);
      filled = c.join_before.ensures.filled;
      some = omega (arith, count_parts c.join_before.new.chunks.items, c.join_before.ensures.some);
    }
