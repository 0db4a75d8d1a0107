use Rattle.std.proofs.Common.{◌≡◌, ◌≤◌, ◌+◌, ◌-◌, length}
use Rattle.ip_text.specs.Runs.{zeros_at}
use Rattle.ip_text.proofs.runs.zeros_from.Given as goal

abbrev pub invariant-loop-at : goal.invariant-loop-at
invariant-loop-at l = record {
  above : l.start ≤ l.at;
  within : l.at ≤ length l.groups;
  value : (l.at - l.start) + zeros_at l.groups l.at ≡ zeros_at l.groups l.start;
}

abbrev pub decreases-loop-at : goal.decreases-loop-at
decreases-loop-at l = length l.groups - l.at
