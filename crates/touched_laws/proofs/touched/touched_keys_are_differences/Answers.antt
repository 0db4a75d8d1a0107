use Rattle.touched_laws.proofs.LeftLaws.{entries-leave, touched-differences}
use Rattle.switch_model.specs.Journal.{after_entries}
use Rattle.switch_model.specs.Touched.{touched_entries}
use Rattle.touched_laws.proofs.touched.touched_keys_are_differences.Goals as goal

pub returns-clause-states : goal.returns-clause-states
returns-clause-states c = touched-differences

pub returns-clause-round : goal.returns-clause-round
returns-clause-round c = λ m es fibs asc of_fibs. touched-differences (touched_entries m es) fibs m (after_entries m es) (entries-leave m es asc) of_fibs
