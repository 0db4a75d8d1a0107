-- The exit status of each outcome.
use Rattle.std.specs.Prelude.{ℕ}
use Rattle.run_outcome.specs.declared.status.Status.{Status}
use Rattle.run_outcome.specs.declared.status.Status.TheVariants as status

abbrev pub code_of : Status → ℕ
code_of status.Done = 0
code_of status.Words = 2
code_of status.Script = 3
code_of status.ReadFault = 4
code_of status.WriteFault = 5
code_of status.StoreFault = 6
code_of status.Saved = 7
code_of status.NoMemory = 8
code_of status.TooLong = 9
code_of status.OpeningFull = 10
