use Rattle.std.proofs.Common.{ℕ, List, refl, arith, length, length-drop, ◌-◌, ◌++◌, ◌∷◌, ◌+◌, [], take, drop}
use Rattle.std.proofs.lemmas.List.{take_all}
use Rattle.ip_text.specs.Printed.{groups_text, compressed_text, longest_run}
use Rattle.ip_text.proofs.RunLaws.{printed_whole, printed_parts}
use Rattle.ip_text.proofs.WriteLaws.{wrote, wrote_same, then_wrote}
use Rattle.ip_text.proofs.write.write_compressed.Goals as goal

pub returns-then-count-lt-SHORTEST_RUN-clause-ok : goal.returns-then-count-lt-SHORTEST_RUN-clause-ok
returns-then-count-lt-SHORTEST_RUN-clause-ok c = wrote_same c.write_groups.result c.args.text.now.items c.write_groups.new.text.items (groups_text c.args.groups.now) (compressed_text c.args.groups.now (longest_run c.args.groups.now)) (printed_whole c.args.groups.now _ _ c.longest_run-start.ensures.run c.if-count-lt-SHORTEST_RUN.true) c.write_groups.ensures.ok

pub returns-clause-ok : goal.returns-clause-ok
returns-clause-ok c =
    let old = c.args.text.now.items in
    let groups = c.args.groups.now in
    let left : List ℕ = take c.longest_run-start.result.0 groups in
    let at = c.longest_run-start.result.0 + c.longest_run-start.result.1 in
    let right : List ℕ = take (length groups - at) (drop at groups) in
    let front = groups_text left in
    let one = wrote old c.write_groups-2.new.text.items c.write_byte.new.text.items front (58 ∷ []) c.in_ok-write_groups.ensures.ok c.in_ok-write_byte.ensures.ok in
    let two = wrote old c.write_byte.new.text.items c.write_byte-2.new.text.items (front ++ 58 ∷ []) (58 ∷ []) one c.in_ok-write_byte-2.ensures.ok in
    then_wrote c.write_groups-3.result old c.write_byte-2.new.text.items c.write_groups-3.new.text.items ((front ++ 58 ∷ []) ++ 58 ∷ []) (groups_text right) (compressed_text groups (longest_run groups)) two
    (printed_parts groups left right c.longest_run-start.result.0 c.longest_run-start.result.1 c.longest_run-start.ensures.run c.if-count-lt-SHORTEST_RUN.false refl (take_all (length groups - at) (drop at groups) (omega (arith, length-drop at groups)))) c.write_groups-3.ensures.ok
