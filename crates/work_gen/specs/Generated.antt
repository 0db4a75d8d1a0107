-- The script of a seed.
use Rattle.std.specs.Prelude.{ℕ, true, false, List, [], ◌∷◌, map}
use Rattle.net_types.specs.declared.table.Caps.{Caps}
use Rattle.switch_model.specs.declared.act.Act.{Act}
use Rattle.switch_model.specs.Built.{placed}
use Rattle.script_text.specs.declared.script.Job.TheVariants.{Submit}
use Rattle.script_text.specs.declared.script.Line.{Line}
use Rattle.script_text.specs.declared.script.Script.{Script}
use Rattle.script_text.specs.declared.script.Start.TheVariants.{Cold}
use Rattle.work_gen.specs.Base.{base_acts}
use Rattle.work_gen.specs.Draws.{seeded, acts}

-- the capacities of the chip's tables
abbrev pub generated_caps : Caps
generated_caps = record { l2 = 1024; host = 512; group = 32; route = 256 }

-- the line of that number, in which caller 0 submits the act and leaves it to a later round
abbrev pub queued : ℕ × Act → Line
queued act = record { line = act.0; caller = 0; job = Submit true (record { alone = false; act = act.1 }) }

-- so many acts of the seed, from line 93 on
abbrev pub generated_lines : ℕ → ℕ → List Line
generated_lines seed count = map queued (placed 93 (acts count (seeded seed)))

-- the base on lines 4 to 91, one phase from line 92 on, and as many updates as may be submitted
abbrev pub generated : ℕ → ℕ → Script
generated seed count = record {
  start = Cold generated_caps;
  limit = count;
  callers = 1;
  base = placed 4 base_acts;
  phases = generated_lines seed count ∷ [];
}
