use Rattle.std.proofs.Common.{ap, ◌∙◌}
use Rattle.shared_laws.specs.Callers.{Seen}
use Rattle.agent_shared.proofs.Settling.{chip_held_grew}
use Rattle.agent_shared.proofs.seats.tables.Goals as goal

pub returns-in_err-tables-clause-grew : goal.returns-in_err-tables-clause-grew
returns-in_err-tables-clause-grew g c =
    let chip = c.take_chip-side.ensures.pass in
    let took = c.take-desk.ensures.pass in
    let put = c.put.ensures.pass in
    let back = c.put_chip.ensures.pass in
    chip_held_grew c.args.seat.now c.take_chip-side.new.pass c.put_chip.new.pass c.take-desk.result.sent c.take-desk.result.rounds c.take_chip-side.result.rounds
    (ap (λ (p : Seen). p.seen) chip) (ap (λ (p : Seen). p.jseen) chip) c.take_chip-side.ensures.jseen c.take-desk.ensures.seen c.take-desk.ensures.jseen
    (ap (λ (p : Seen). p.seen) back ∙ (ap (λ (p : Seen). p.seen) put ∙ ap (λ (p : Seen). p.seen) took))
    (ap (λ (p : Seen). p.jseen) back ∙ (ap (λ (p : Seen). p.jseen) put ∙ ap (λ (p : Seen). p.jseen) took))
    (ap (λ (p : Seen). p.rounds) back ∙ (ap (λ (p : Seen). p.rounds) put ∙ (ap (λ (p : Seen). p.rounds) took ∙ ap (λ (p : Seen). p.rounds) chip)))

pub returns-clause-grew : goal.returns-clause-grew
returns-clause-grew g c =
    let chip = c.take_chip-side.ensures.pass in
    let took = c.take-desk.ensures.pass in
    let put = c.put.ensures.pass in
    let back = c.put_chip.ensures.pass in
    chip_held_grew c.args.seat.now c.take_chip-side.new.pass c.put_chip.new.pass c.take-desk.result.sent c.take-desk.result.rounds c.take_chip-side.result.rounds
    (ap (λ (p : Seen). p.seen) chip) (ap (λ (p : Seen). p.jseen) chip) c.take_chip-side.ensures.jseen c.take-desk.ensures.seen c.take-desk.ensures.jseen
    (ap (λ (p : Seen). p.seen) back ∙ (ap (λ (p : Seen). p.seen) put ∙ ap (λ (p : Seen). p.seen) took))
    (ap (λ (p : Seen). p.jseen) back ∙ (ap (λ (p : Seen). p.jseen) put ∙ ap (λ (p : Seen). p.jseen) took))
    (ap (λ (p : Seen). p.rounds) back ∙ (ap (λ (p : Seen). p.rounds) put ∙ (ap (λ (p : Seen). p.rounds) took ∙ ap (λ (p : Seen). p.rounds) chip)))
