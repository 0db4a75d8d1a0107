use Rattle.std.proofs.Common.{◌-◌, ◌<◌, ◌^◌, ℕ, List, Option}
use Rattle.ip_text.specs.Scans.{Scans}
use Rattle.ip_text.specs.Unread.{IsRight}
use Rattle.ip_text.proofs.groups.right_groups.Given as goal

abbrev pub invariant-loop-done : goal.invariant-loop-done
invariant-loop-done l = record {
  within : l.done < l.most;
  small : l.value < 65536 ^ l.done;
  -- whatever the scan of the rest gives, the scan of all gives
  back : (value : Option ℕ) (rest : List ℕ) → Scans (IsRight (l.most - l.done) l.value) l.rest value rest → Scans (IsRight l.most 0) l.bytes value rest;
}

abbrev pub decreases-loop-done : goal.decreases-loop-done
decreases-loop-done l = l.most - l.done
