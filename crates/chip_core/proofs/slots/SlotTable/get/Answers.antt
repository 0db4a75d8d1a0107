use Rattle.std.proofs.Common.{◌<◌, ◌≤◌, get_or, length, sym, ap, ◌∙◌, arith}
use Rattle.std.specs.Ordering.{nat_cmp}
use Rattle.keyed.specs.Keyed.{at}
use Rattle.chip_core.proofs.TakenLaws.{past-taken, read-taken}
use Rattle.chip_core.proofs.slots.SlotTable.get.Goals as goal

pub returns-in-Some : goal.returns-in-Some
returns-in-Some g c =
    let slots = c.self.inside.slots.items in
    let found = c.in-Some.ensures.lookup in
    let within : c.args.slot < length slots = omega (arith, found.0, ap length c.deref.ensures.value) in
    let read = found.1 ∙ ap (λ l. get_or l c.args.slot c.in-Some.held.now) c.deref.ensures.value in
    c.as_ref.ensures.value ∙ sym (read-taken c.args.slot slots c.in-Some.held.now within read) ∙ ap (λ v. at nat_cmp c.args.slot v.rows) c.self.view_is

pub returns-in-None : goal.returns-in-None
returns-in-None g c =
    let slots = c.self.inside.slots.items in
    let found = c.in-None.ensures.lookup in
    let past : length slots ≤ c.args.slot = omega (arith, found.0, ap length c.deref.ensures.value) in
    sym (sym (ap (λ v. at nat_cmp c.args.slot v.rows) c.self.view_is) ∙ past-taken c.args.slot slots past)
