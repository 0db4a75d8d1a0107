use Rattle.std.proofs.Common.{length}
use Rattle.std.specs.List.{filter}
use Rattle.switch_model.specs.Looking.{is_past}
use Rattle.fib_refresh.proofs.RefreshLaws.{IsRefreshed}
use Rattle.fib_refresh.proofs.refresh.refresh_entries.Given as goal

abbrev pub invariant-loop-key : goal.invariant-loop-key
invariant-loop-key g l = IsRefreshed (g.S.Resolver.rib l.resolver) l.fn.edit l.fn.keys l.last l.edit

abbrev pub decreases-loop-key : goal.decreases-loop-key
decreases-loop-key g l = length (filter (is_past l.last) l.fn.keys)
