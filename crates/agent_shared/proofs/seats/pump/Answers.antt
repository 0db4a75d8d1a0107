use Rattle.std.proofs.Common.{◌≤◌, arith}
use Rattle.shared_laws.proofs.CallLaws.{pumped_ok}
use Rattle.agent_shared.proofs.seats.pump.Goals as goal

pub returns-clause-ok : goal.returns-clause-ok
returns-clause-ok g c =
    let e = c.round.ensures in
    let o = c.args.book.now.opening in
    let wide : o.limit ≤ 18446744073709551615 = omega (arith, e.room) in
    pumped_ok o c.args.seat.now c.round.new.seat 18446744073709551615 c.round.result e.rest.so_far wide e.ok
