use Rattle.std.proofs.Common.{◌-◌, ◌<◌, ◌^◌, ℕ, List, Option}
use Rattle.ip_text.specs.Scans.{Scans}
use Rattle.ip_text.specs.Numerals.{IsRow}
use Rattle.ip_text.specs.Unread.{IsRowOn}
use Rattle.ip_text.specs.Parts.{IsPart, between}
use Rattle.ip_text.proofs.rows.read_row.Given as goal

abbrev pub invariant-loop-done : goal.invariant-loop-done
invariant-loop-done l = record {
  within : l.done < l.count;
  small : l.value < 256 ^ l.done;
  -- whatever the scan of the rest gives, the scan of all gives
  back : (value : Option ℕ) (rest : List ℕ) → Scans (IsRowOn (IsPart l.part) (between l.part) 256 (l.count - l.done) l.value) l.rest value rest → Scans (IsRow (IsPart l.part) (between l.part) 256 l.count) l.bytes value rest;
}

abbrev pub decreases-loop-done : goal.decreases-loop-done
decreases-loop-done l = l.count - l.done
