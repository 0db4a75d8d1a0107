-- Rounds as the entries between their ends.
use Rattle.std.specs.Prelude.{◌≡◌, ◌<◌, ◌-◌, ◌+◌, ℕ, Bool, true, false, Option, List, [], ◌∷◌, length, take, drop, slice_get}
use Rattle.std.specs.Option.{option_map}
use Rattle.switch_model.specs.declared.journal.Entry.{Entry}
use Rattle.switch_model.specs.declared.journal.Round.{Round}
use Rattle.switch_model.specs.declared.journal.RoundKind.{RoundKind}
use Rattle.switch_model.specs.declared.journal.RoundKind.TheVariants.{Whole, One}
use Rattle.switch_model.specs.Journal.{entries_of}
use Rattle.shared_journal.specs.declared.RoundEnd.{RoundEnd}

-- the round settled a whole run
abbrev pub is_whole : RoundKind → Bool
is_whole Whole = true
is_whole One = false

-- the first position after the entries of the k-th round, and whether the round is whole
abbrev pub end_of : List Round → ℕ → Option (ℕ × Bool)
end_of rounds k = option_map (λ r. (length (entries_of (take (k + 1) rounds)), is_whole r.kind)) (slice_get rounds k)

-- the rounds that end there, of the entries from a position on
abbrev pub cut : ℕ → List RoundEnd → List Entry → List Round
cut from [] es = []
cut from (e ∷ ends) es = record { kind = e.kind; entries = take (e.end - from) es } ∷ cut e.end ends (drop (e.end - from) es)

-- the ends rise from the position on, and the last one is where the entries end
abbrev pub AreEnds : ℕ → List RoundEnd → ℕ → Type 0
AreEnds from [] total = from ≡ total
AreEnds from (e ∷ ends) total = (from < e.end) × AreEnds e.end ends total
