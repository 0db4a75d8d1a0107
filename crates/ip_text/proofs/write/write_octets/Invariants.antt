use Rattle.std.proofs.Common.{◌≡◌, ◌++◌, take}
use Rattle.ip_text.specs.Rows.{joint, octet_text, row_text}
use Rattle.ip_text.proofs.write.write_octets.Given as goal

abbrev pub invariant-loop-at : goal.invariant-loop-at
invariant-loop-at l = l.text.items ≡ l.initial.text.items ++ row_text (joint l.style) (octet_text l.style) (take l.at l.octets)
