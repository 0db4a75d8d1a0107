-- Where observers stand.
use Rattle.std.specs.Prelude.{ℕ, Bool, List, map}
use Rattle.observers.specs.Watch.{Watch}
use Rattle.switch_model.specs.declared.record.Totals.{Totals}

-- an observer's version and its counts
abbrev pub standing_of : Watch → ℕ × Totals
standing_of w = (w.version, w.totals)

-- which of the observers are sure
abbrev pub sures_of : List Watch → List Bool
sures_of watches = map (λ w. w.sure) watches
