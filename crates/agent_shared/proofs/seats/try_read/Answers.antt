use Rattle.std.proofs.Common.{ap, ◌∙◌}
use Rattle.shared_laws.specs.Callers.{Seen}
use Rattle.agent_shared.proofs.Settling.{held_grew}
use Rattle.agent_shared.proofs.seats.try_read.Goals as goal

pub returns-clause-grew : goal.returns-clause-grew
returns-clause-grew g c =
    let put = c.put.ensures.pass in
    let found = c.in-Some.ensures in
    let took = found.found in
    let seen = ap (λ (p : Seen). p.seen) put ∙ ap (λ (p : Seen). p.seen) took in
    let jseen = ap (λ (p : Seen). p.jseen) put ∙ ap (λ (p : Seen). p.jseen) took in
    let rounds = ap (λ (p : Seen). p.rounds) put ∙ ap (λ (p : Seen). p.rounds) took in
    held_grew c.args.seat.now c.put.new.pass c.in-Some.desk.sent c.in-Some.desk.rounds found.seen found.jseen seen jseen rounds
