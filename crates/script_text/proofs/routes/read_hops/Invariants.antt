use Rattle.std.proofs.Common.{◌≡◌, [], length}
use Rattle.ip_text.specs.Values.{hop_of}
use Rattle.script_words.specs.Reading.{each}
use Rattle.script_text.proofs.routes.read_hops.Given as goal

abbrev pub invariant-loop-word : goal.invariant-loop-word
invariant-loop-word l = each hop_of l.hops l.cursor ≡ each hop_of [] l.fn.cursor

abbrev pub decreases-loop-word : goal.decreases-loop-word
decreases-loop-word l = length l.cursor
