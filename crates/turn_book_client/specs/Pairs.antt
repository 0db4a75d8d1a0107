-- Rounds of two submissions.
use Rattle.std.specs.Prelude.{List, [], ◌∷◌}
use Rattle.turn_book_client.specs.declared.values.Submission.{Submission}
use Rattle.turn_book_client.specs.declared.values.Pair.{Pair}

-- The two submissions of a round, in order.
abbrev pub subs_of : Pair → List Submission
subs_of r = r.first ∷ r.second ∷ []
