use Rattle.std.proofs.Common.{◌≤◌, length, List, Option, ℕ}
use Rattle.ip_text.specs.Scans.{Scans}
use Rattle.ip_text.specs.Numerals.{IsNumber}
use Rattle.ip_text.proofs.Numbers.{IsTail}
use Rattle.ip_text.proofs.digits.number.Given as goal

abbrev pub invariant-digits : goal.invariant-digits
invariant-digits l = record {
  enough : l.low ≤ l.value;
  within : l.value ≤ l.high;
  -- whatever the scan of the rest gives, the scan of all gives
  back : (value : Option ℕ) (rest : List ℕ) → Scans (IsTail l.high l.value) l.rest value rest → Scans (IsNumber l.low l.high) l.bytes value rest;
}

abbrev pub decreases-digits : goal.decreases-digits
decreases-digits l = length l.rest
