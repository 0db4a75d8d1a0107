-- How the lines of generated work are run.
use Rattle.std.specs.Prelude.{ℕ, ◌*◌, List, length, map, take, drop}
use Rattle.std.specs.Int.{div_ceil}
use Rattle.std.specs.List.{range_with_len}
use Rattle.script_text.specs.declared.script.Line.{Line}
use Rattle.script_text.specs.declared.script.Script.{Script}
use Rattle.work_gen.specs.Generated.{generated, generated_lines}

-- the n-th block of lines, counted from 0: sixteen of them, or those that are left
abbrev pub block_at : List Line → ℕ → List Line
block_at lines n = take 16 (drop (n * 16) lines)

-- lines in blocks of sixteen, the last block perhaps shorter
abbrev pub in_blocks : List Line → List (List Line)
in_blocks lines = map (block_at lines) (range_with_len 0 (div_ceil (length lines) 16))

-- the script of a seed, with a phase for each block of its lines: what a block submits is settled before the next one begins
abbrev pub work : ℕ → ℕ → Script
work seed count = record (generated seed count) { phases = in_blocks (generated_lines seed count) }
