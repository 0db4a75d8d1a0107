use Rattle.std.proofs.Common.{◌-◌, ◌<◌, ◌≤◌, ◌^◌, ℕ, List, Option}
use Rattle.ip_text.specs.Scans.{Scans}
use Rattle.ip_text.specs.Unread.{IsLeft}
use Rattle.ip_text.proofs.ipv6.left_groups.Given as goal

abbrev pub invariant-loop-count : goal.invariant-loop-count
invariant-loop-count l = record {
  low : 2 ≤ l.count;
  high : l.count ≤ 7;
  small : l.value < 65536 ^ (8 - l.count);
  -- whatever the scan of the rest gives, the scan of all gives
  back : (value : Option ℕ) (rest : List ℕ) → Scans (IsLeft l.count l.value) l.rest value rest → Scans (IsLeft 7 l.before) l.bytes value rest;
}

abbrev pub decreases-loop-count : goal.decreases-loop-count
decreases-loop-count l = l.count
