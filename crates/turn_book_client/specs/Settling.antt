-- What a call of a caller did.
use Rattle.std.specs.Prelude.{◌≡◌, ℕ, ◌+◌, ◌<◌, ◌≤◌, List, [], ◌∷◌, ◌++◌, length}
use Rattle.turn_book.specs.Lists.{strip}
use Rattle.turn_book.specs.Passes.{Pass}
use Rattle.turn_book_client.specs.declared.values.Submission.{Submission}
use Rattle.turn_book_client.specs.declared.values.Pair.{Pair}
use Rattle.turn_book_client.specs.Pairs.{subs_of}

-- The caller's next submission.
abbrev pub next_of : Pass ℕ Submission Pair → Submission
next_of p = record { caller = p.number; sequence = length p.mine }

-- The caller settled one round, behind those that it had seen.
pub record SettledOne (old new : Pass ℕ Submission Pair) : Type 0 where
  pub number : ℕ
  pub later : length old.jseen ≤ number
  pub counted : new.rounds ≡ old.rounds ++ number ∷ []
  pub last : length new.jseen ≡ number + 1

-- The caller settled nothing, since of all that was submitted fewer than two were left.
pub record LeftFewerThanTwo (old new : Pass ℕ Submission Pair) : Type 0 where
  pub few : length new.seen < length (strip subs_of new.jseen) + 2
  pub counted : new.rounds ≡ old.rounds
