-- Journals that begin others.
use Rattle.std.specs.Prelude.{◌≡◌, ℕ}
use Rattle.switch_model.specs.Journal.{Journal, IsJournalPrefix, len}

-- a beginning of the journal has that many entries
abbrev pub HasBeginning : Journal → ℕ → Type 0
HasBeginning j n = (k : Journal) × IsJournalPrefix k j × (len k ≡ n)
