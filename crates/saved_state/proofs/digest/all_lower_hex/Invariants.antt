use Rattle.std.proofs.Common.{◌≡◌, drop}
use Rattle.saved_state.specs.Digest.{all_lower_hex}
use Rattle.saved_state.proofs.digest.all_lower_hex.Given as goal

abbrev pub invariant-loop-byte : goal.invariant-loop-byte
invariant-loop-byte l = all_lower_hex (drop l.byte-index l.bytes) ≡ all_lower_hex l.bytes
