-- How far a journal is written.
use Rattle.std.specs.Prelude.{ℕ, ◌≡◌, ◌≤◌, Bool, true, false, List, length, take}
use Rattle.journal_report.specs.declared.journal.Written.{Written}
use Rattle.switch_model.specs.declared.journal.Round.{Round}
use Rattle.switch_model.specs.declared.journal.RoundKind.{RoundKind}
use Rattle.switch_model.specs.declared.journal.RoundKind.TheVariants.{Whole, One}
use Rattle.switch_model.specs.Journal.{entries_of, version_after}

-- the first of these rounds, which follow the opening version, are written
pub record IsWritten (opening : ℕ) (rounds : List Round) (w : Written) : Type 0 where
  pub within : w.rounds ≤ length rounds
  pub entries : w.entries ≡ length (entries_of (take w.rounds rounds))
  pub version : w.version ≡ version_after opening (entries_of (take w.rounds rounds))

-- the kind of a round that is whole, or isn't
abbrev pub kind_of : Bool → RoundKind
kind_of true = Whole
kind_of false = One
