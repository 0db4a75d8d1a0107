use Rattle.std.proofs.lemmas.List.Sorted.{Contains-permutation, IsPermutation-sym}
use Rattle.row_sources.proofs.SetLaws.{distinct_is}
use Rattle.row_sources.proofs.distinct.distinct.Goals as goal

pub returns : goal.returns
returns g c = distinct_is g.K.Ord.cmp c.requires g.K.PartialEq.eq g.met.K.Eq.laws g.met.K.Ord.matches_eq c.args.keys.items c.sort_unstable.new.self.items c.dedup.new.self.items
    (λ x. Contains-permutation c.sort_unstable.new.self.items c.args.keys.items x (IsPermutation-sym c.args.keys.items c.sort_unstable.new.self.items c.sort_unstable.ensures.permutation))
    (λ x. Contains-permutation c.args.keys.items c.sort_unstable.new.self.items x c.sort_unstable.ensures.permutation)
    c.sort_unstable.ensures.sorted c.dedup.ensures.filtered
