use Rattle.std.proofs.Common.{rules}
use Rattle.shared_laws.proofs.CallLaws.{tried_around}
use Rattle.agent_shared.proofs.rounds.round.Goals as goal

pub returns-clause-ok : goal.returns-clause-ok
returns-clause-ok g c =
    let a = c.args.seat.now in
    let b = c.take_chip-side.new.pass in
    let e = c.round_under-settled.new.seat in
    let d = c.put_chip.new.pass in
    let took = c.take_chip-side.ensures.pass in
    let put = c.put_chip.ensures.pass in
    tried_around c.args.book.now.opening a b e d c.args.most c.round_under-settled.result
    (search rules) (search rules) (search rules) (search rules) (search rules) (search rules) c.round_under-settled.ensures.ok
