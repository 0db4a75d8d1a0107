use Rattle.std.proofs.Common.{◌≡◌, ◌==◌, ◌&&◌, filter, take, option_copied}
use Rattle.std.specs.List.{reduce}
use Rattle.switch_model.specs.Addresses.{same_addr}
use Rattle.switch_model.specs.BestRoute.{nearer}
use Rattle.plain_looker.proofs.looker.PlainLooker.nearest.Given as goal

abbrev pub invariant-loop-entry : goal.invariant-loop-entry
invariant-loop-entry l = option_copied l.nearest ≡ reduce nearer (filter (λ e. (e.0.vrf == l.vrf) && same_addr l.prefix e.0.prefix) (take l.entry-index l.entry-items))
