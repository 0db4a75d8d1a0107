-- Counts of entries, and counts that are kept up.
use Rattle.std.specs.Prelude.{◌≡◌, ℕ, ◌+◌, Bool, false, Option, None, Some, count_by, length}
use Rattle.node_map.specs.TreeNode.{Entries}
use Rattle.switch_model.specs.Totals.{counted, totals}
use Rattle.switch_model.specs.declared.record.PortRec.{PortRec}
use Rattle.switch_model.specs.declared.record.Totals.{Totals}
use Rattle.switch_state.specs.Plain.{fib_entries, plain}
use Rattle.switch_state.specs.StateView.{StateView}

-- the counts of the state's own maps, that of the FIB's map included
abbrev pub counts_of : StateView → Totals
counts_of s = record (totals (plain s)) { fib = counted (length (fib_entries s)) }

-- how many of the ports are up
abbrev pub ports_up : Entries PortRec → ℕ
ports_up entries = count_by (λ e. e.1.value.up) entries

-- a port is there, and up
abbrev pub is_up : Option PortRec → Bool
is_up None = false
is_up (Some port) = port.up

-- where the count before is that of the old entries and some others, the count now is that of the new entries and the same others
abbrev pub KeepsUp : ℕ → ℕ → ℕ → ℕ → Type 0
KeepsUp before old now new = (others : ℕ) → before ≡ counted (old + others) → now ≡ counted (new + others)
