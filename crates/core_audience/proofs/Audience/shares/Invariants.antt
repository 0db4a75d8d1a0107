use Rattle.std.proofs.Common.{◌≡◌, length}
use Rattle.std.specs.List.{AllByRecursion}
use Rattle.core_audience.proofs.Audience.shares.Given as goal

abbrev pub invariant-loop : goal.invariant-loop
invariant-loop g l = record {
  shares : AllByRecursion (λ s. s ≡ l.state) l.list.items;
  count : length l.list.items ≡ l.counter;
}
