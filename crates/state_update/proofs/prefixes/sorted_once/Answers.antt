use Rattle.net_types.proofs.Sorted.{once-ascends, once-same}
use Rattle.state_update.proofs.prefixes.sorted_once.Goals as goal

pub returns-clause-ascending : goal.returns-clause-ascending
returns-clause-ascending g c = once-ascends g.T.Ord.cmp g.T.PartialEq.eq g.met.T.Ord.total g.met.T.Ord.matches_eq _ _ c.sort_unstable.ensures.sorted c.dedup.ensures.filtered

pub returns-clause-same : goal.returns-clause-same
returns-clause-same g c = once-same g.T.Ord.cmp g.T.PartialEq.eq g.met.T.Eq.laws g.met.T.Ord.matches_eq _ _ _ c.sort_unstable.ensures.permutation c.dedup.ensures.filtered
