use Rattle.std.proofs.Common.{ap, ◌∙◌}
use Rattle.shared_laws.specs.Callers.{Seen}
use Rattle.agent_shared.proofs.Settling.{desk_answers, held_grew}
use Rattle.agent_shared.proofs.seats.look.Goals as goal

pub returns-in_default-clause-grew : goal.returns-in_default-clause-grew
returns-in_default-clause-grew g c =
    let put = c.put.ensures.pass in
    let took = c.take-desk.ensures.pass in
    let seen = ap (λ (p : Seen). p.seen) put ∙ ap (λ (p : Seen). p.seen) took in
    let jseen = ap (λ (p : Seen). p.jseen) put ∙ ap (λ (p : Seen). p.jseen) took in
    let rounds = ap (λ (p : Seen). p.rounds) put ∙ ap (λ (p : Seen). p.rounds) took in
    held_grew c.args.seat.now c.put.new.pass c.take-desk.result.sent c.take-desk.result.rounds c.take-desk.ensures.seen c.take-desk.ensures.jseen seen jseen rounds

pub returns-clause-grew : goal.returns-clause-grew
returns-clause-grew g c =
    let put = c.put.ensures.pass in
    let took = c.take-desk.ensures.pass in
    let seen = ap (λ (p : Seen). p.seen) put ∙ ap (λ (p : Seen). p.seen) took in
    let jseen = ap (λ (p : Seen). p.jseen) put ∙ ap (λ (p : Seen). p.jseen) took in
    let rounds = ap (λ (p : Seen). p.rounds) put ∙ ap (λ (p : Seen). p.rounds) took in
    held_grew c.args.seat.now c.put.new.pass c.take-desk.result.sent c.take-desk.result.rounds c.take-desk.ensures.seen c.take-desk.ensures.jseen seen jseen rounds

pub returns-clause-found : goal.returns-clause-found
returns-clause-found g c =
    let jseen = ap (λ (p : Seen). p.jseen) c.put.ensures.pass ∙ ap (λ (p : Seen). p.jseen) c.take-desk.ensures.pass in
    desk_answers c.args.book.now.opening c.take-desk.result c.args.seat.now.seen c.put.new.pass.jseen c.args.position c.in-Some.verdict c.in-Some.version c.front-front.result
    c.take-desk.ensures.opening jseen c.shape.ensures c.take-desk.ensures.seen c.requires.ticket c.in-Some.ensures c.front-front.ensures
