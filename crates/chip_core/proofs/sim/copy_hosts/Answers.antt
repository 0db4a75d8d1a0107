use Rattle.std.proofs.Common.{◌≡◌, ◌++◌, ◌∷◌, [], take, sym, ap, ◌∙◌}
use Rattle.std.proofs.lemmas.List.{map-append}
use Rattle.chip_core.specs.Slots.{host_rows}
use Rattle.chip_core.specs.SlotsLaws.{Entries}
use Rattle.chip_core.specs.Taken.{taken}
use Rattle.chip_core.proofs.TakenLaws.{taken-more}
use Rattle.chip_core.proofs.sim.copy_hosts.Goals as goal

rows-append : (a b : Entries) → host_rows (a ++ b) ≡ host_rows a ++ host_rows b
rows-append a b = map-append _ a b

pub loop-slot-preserved : goal.loop-slot-preserved
loop-slot-preserved c =
    let slots = c.args.slots.now in
    let n = c.loop-slot.slot in
    let o = c.index-slots-slot.result in
    c.in_ok-push_host.ensures
    ∙ ap (λ l. l ++ host_rows (taken n (o ∷ []))) c.loop-slot.invariant
    ∙ sym (rows-append (taken 0 (take n slots)) (taken n (o ∷ [])))
    ∙ ap host_rows (sym (taken-more n slots o c.loop-slot-test.true c.index-slots-slot.is))
