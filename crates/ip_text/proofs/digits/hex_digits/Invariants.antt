use Rattle.std.proofs.Common.{◌-◌, ◌<◌, ◌≤◌, ◌^◌, ℕ, List, Option}
use Rattle.ip_text.specs.Scans.{Scans}
use Rattle.ip_text.specs.Numerals.{IsHex}
use Rattle.ip_text.specs.Unread.{IsHexOn}
use Rattle.ip_text.proofs.digits.hex_digits.Given as goal

abbrev pub invariant-loop-count : goal.invariant-loop-count
invariant-loop-count l = record {
  within : l.count ≤ l.high;
  small : l.value < 16 ^ l.count;
  -- whatever the scan of the rest gives, the scan of all gives
  back : (value : Option ℕ) (rest : List ℕ) → Scans (IsHexOn (l.low - l.count) (l.high - l.count) l.value) l.rest value rest → Scans (IsHex l.low l.high) l.bytes value rest;
}

abbrev pub decreases-loop-count : goal.decreases-loop-count
decreases-loop-count l = l.high - l.count
