use Rattle.std.proofs.Common.{rules, ◌≡◌, [], ◌∷◌, map, ap, sym, ◌∙◌}
use Rattle.std.specs.List.{range_with_len}
use Rattle.turn_book.specs.PassLaws.{each_in_order}
use Rattle.turn_book_client.proofs.tests.close_four.Goals as goal

pub close-requires-clause-all : goal.close-requires-clause-all
close-requires-clause-all c =
    let r = c.requires in
    let items : c.push-4.new.self.items ≡ c.args.one ∷ c.args.two ∷ c.args.three ∷ c.args.four ∷ [] = search rules in
    each_in_order c.args.book c.push-4.new.self.items
    (ap (map (λ p. p.number)) items ∙ ((λ i. r.one_number i ∷ r.two_number i ∷ r.three_number i ∷ r.four_number i ∷ []) ∙ ap (range_with_len 0) (sym r.callers)))
