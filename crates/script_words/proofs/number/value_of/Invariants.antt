use Rattle.std.proofs.Common.{◌≡◌, ◌≤◌, true, drop}
use Rattle.std.specs.Str.{all_ascii_digits}
use Rattle.script_words.specs.Reading.{read_on}
use Rattle.script_words.proofs.number.value_of.Given as goal

abbrev pub invariant-loop-b : goal.invariant-loop-b
invariant-loop-b l = record {
  within : l.value ≤ l.high;
  digits : all_ascii_digits (drop l.b-index l.word) ≡ true;
  value : read_on l.value (drop l.b-index l.word) ≡ read_on 0 l.word;
}
