use Rattle.std.proofs.Common.{rules}
use Rattle.std.specs.Ordering.{is_lt}
use Rattle.std.proofs.lemmas.Fn.{always_returns_same}
use Rattle.std.proofs.lemmas.List.Sorted.{ranks_by}
use Rattle.chip_rows.proofs.Gathered.{apart-moved, sorted-ascends}
use Rattle.chip_rows.proofs.sorted.by_key.Goals as goal

pub returns-clause-ascends : goal.returns-clause-ascends
returns-clause-ascends g c =
    let cmp = g.K.Ord.cmp in
    let order = c.requires.order in
    let sorted = c.sort_unstable_by.new.self.items in
    let in_order = c.sort_unstable_by.ensures.sorted (λ x y. is_lt (cmp x.0 y.0)) (ranks_by order.total (λ x. x.0)) (always_returns_same _ _ _ (λ a r f' called. search rules)) in
    sorted-ascends cmp order sorted in_order (apart-moved cmp order c.args.entries.items sorted c.sort_unstable_by.ensures.permutation c.requires.apart)
