use Rattle.std.proofs.Common.{rules}
use Rattle.state_update.proofs.Doubles.{key_order-as, same-as_given}
use Rattle.state_update.proofs.prefixes.prefixes_of.Goals as goal

pub returns-clause-same : goal.returns-clause-same
returns-clause-same c = same-as_given c.sorted_once.result.items _ _ c.in_ok-all_prefixes.ensures (c.sorted_once.ensures.same (key_order-as _ (λ x y. search rules)))
