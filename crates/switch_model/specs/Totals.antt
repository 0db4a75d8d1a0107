-- How many entries a state has.
use Rattle.std.specs.Prelude.{ℕ, ◌-◌, ◌^◌, min, length, count_by}
use Rattle.switch_model.specs.declared.record.Totals.{Totals}
use Rattle.switch_model.specs.Fib.{fibs}
use Rattle.switch_model.specs.PlainState.{PlainState, rib}

-- a count past the last number of 64 bits stands there as that number
abbrev pub counted : ℕ → ℕ
counted n = min n (2 ^ 64 - 1)

-- the count of each part, and of the FIB
abbrev pub totals : PlainState → Totals
totals m = record {
  ports = counted (length m.ports);
  up = counted (count_by (λ e. e.1.up) m.ports);
  vlans = counted (length m.vlans);
  intfs = counted (length m.intfs);
  macs = counted (length m.macs);
  neighbors = counted (length m.neighbors);
  routes = counted (length m.routes);
  fib = counted (length (fibs (rib m)));
}
