use Rattle.std.proofs.Common.{◌≡◌, ◌≤◌, ◌<◌, ◌+◌, ℕ, length}
use Rattle.ip_text.specs.Runs.{zeros_at}
use Rattle.ip_text.proofs.runs.longest_run.Given as goal

abbrev pub invariant-loop-start : goal.invariant-loop-start
invariant-loop-start l = record {
  within : l.best + l.most ≤ length l.groups;
  here : zeros_at l.groups l.best ≡ l.most;
  above : (k : ℕ) → k < l.start → zeros_at l.groups k ≤ l.most;
  first : (k : ℕ) → k < l.best → zeros_at l.groups k < l.most;
  before : l.best ≤ l.start;
}
