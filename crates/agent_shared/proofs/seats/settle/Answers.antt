use Rattle.std.proofs.Common.{◌∙◌, refl}
use Rattle.shared_laws.proofs.AnswerLaws.{answer_from}
use Rattle.shared_laws.proofs.CallLaws.{grew_self, grew_trans, rounds_same, rounds_tried, rounds_trans, same_trans}
use Rattle.shared_laws.specs.Ground.{journal_at}
use Rattle.agent_shared.proofs.seats.settle.Goals as goal

pub loop-init : goal.loop-init
loop-init g c =
    let p = c.args.seat.now in record {
      book = c.requires.book;
      caller = record { book = refl; callers = refl; opening = refl; number = refl };
      rest = c.requires.rest;
      grew = grew_self p;
      mine = refl;
      tries = refl;
      rounds = rounds_same c.args.book.now.opening p p c.args.position refl;
    }

pub returns-in-Some-look-clause-rounds : goal.returns-in-Some-look-clause-rounds
returns-in-Some-look-clause-rounds g c =
    let i = c.loop.invariant in
    let e = c.look.ensures in
    rounds_trans c.args.book.now.opening c.args.seat.now c.loop.seat c.look.new.seat c.args.position i.grew e.grew i.rounds (rounds_same c.args.book.now.opening c.loop.seat c.look.new.seat c.args.position e.mine.1)

pub returns-in-Some-look-clause-ok : goal.returns-in-Some-look-clause-ok
returns-in-Some-look-clause-ok g c =
    let i = c.loop.invariant in
    answer_from c.args.seat.now.seen c.loop.seat.seen (journal_at c.args.book.now.opening c.look.new.seat.jseen) c.args.position c.in-Some-look.verdict c.in-Some-look.version c.in-Some-look.front i.grew.seen c.requires.ticket c.in-Some-look.ensures.found

pub returns-in-Some-look-clause-grew : goal.returns-in-Some-look-clause-grew
returns-in-Some-look-clause-grew g c = grew_trans c.args.seat.now c.loop.seat c.look.new.seat c.loop.invariant.grew c.look.ensures.grew

pub returns-in-Some-look-clause-caller : goal.returns-in-Some-look-clause-caller
returns-in-Some-look-clause-caller g c = same_trans c.args.seat.now c.loop.seat c.look.new.seat c.loop.invariant.caller c.look.ensures.caller

pub loop-preserved : goal.loop-preserved
loop-preserved g c =
    let o = c.args.book.now.opening in
    let i = c.loop.invariant in
    let e = c.look.ensures in
    let r = c.round.ensures in
    let first = rounds_trans o c.args.seat.now c.loop.seat c.look.new.seat c.args.position i.grew e.grew i.rounds (rounds_same o c.loop.seat c.look.new.seat c.args.position e.mine.1) in
    let grew = grew_trans c.args.seat.now c.loop.seat c.look.new.seat i.grew e.grew in record {
      book = r.book;
      caller = same_trans c.args.seat.now c.look.new.seat c.round.new.seat (same_trans c.args.seat.now c.loop.seat c.look.new.seat i.caller e.caller) r.caller;
      rest = r.rest;
      grew = grew_trans c.args.seat.now c.look.new.seat c.round.new.seat grew r.grew;
      mine = r.mine ∙ (e.mine.0 ∙ i.mine);
      tries = r.tries ∙ (e.tries ∙ i.tries);
      rounds = rounds_trans o c.args.seat.now c.look.new.seat c.round.new.seat c.args.position grew r.grew first (rounds_tried o c.look.new.seat c.round.new.seat c.args.position c.in_ok-round.field-0 c.in_ok-round.ensures.ok);
    }

pub returns-in_err-round-clause-rounds : goal.returns-in_err-round-clause-rounds
returns-in_err-round-clause-rounds g c =
    let o = c.args.book.now.opening in
    let i = c.loop.invariant in
    let e = c.look.ensures in
    let r = c.round.ensures in
    let first = rounds_trans o c.args.seat.now c.loop.seat c.look.new.seat c.args.position i.grew e.grew i.rounds (rounds_same o c.loop.seat c.look.new.seat c.args.position e.mine.1) in
    rounds_trans o c.args.seat.now c.look.new.seat c.round.new.seat c.args.position (grew_trans c.args.seat.now c.loop.seat c.look.new.seat i.grew e.grew) r.grew first (rounds_same o c.look.new.seat c.round.new.seat c.args.position c.in_err-round.ensures.err)

pub returns-in_err-round-clause-grew : goal.returns-in_err-round-clause-grew
returns-in_err-round-clause-grew g c =
    grew_trans c.args.seat.now c.look.new.seat c.round.new.seat (grew_trans c.args.seat.now c.loop.seat c.look.new.seat c.loop.invariant.grew c.look.ensures.grew) c.round.ensures.grew

pub returns-in_err-round-clause-caller : goal.returns-in_err-round-clause-caller
returns-in_err-round-clause-caller g c =
    same_trans c.args.seat.now c.look.new.seat c.round.new.seat (same_trans c.args.seat.now c.loop.seat c.look.new.seat c.loop.invariant.caller c.look.ensures.caller) c.round.ensures.caller
