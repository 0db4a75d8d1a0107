use Rattle.std.proofs.Common.{arith, rules}
use Rattle.state_delta.proofs.Halves.{shared_sides, agree_below, agree_rest, fewer_below, fewer_rest, in_rest}
use Rattle.state_delta.proofs.search.+first_change.Goals as goal

pub returns-then-is_shared : goal.returns-then-is_shared
returns-then-is_shared g t c = λ key past.
    shared_sides c.args.old c.args.new c.in-Some.old c.in-Some-new-2.new c.in-Some.is c.in-Some-new-2.is c.sound.ensures c.sound-2.ensures c.requires (c.is_shared.ensures.0 c.if-is_shared.true) key

pub first_change-requires : goal.first_change-requires
first_change-requires g t c κs within =
    let fewer = fewer_rest c.args.old c.args.new c.in-Some.old c.in-Some-new-2.new c.in-Some.is c.in-Some-new-2.is c.cut-old_halves.ensures c.cut-new_halves.ensures c.sound.ensures c.sound-2.ensures c.parting-split.ensures in
    let d = c.decreases in
    (omega (arith, d, fewer), (search rules, agree_rest c.args.old c.args.new c.in-Some.old c.in-Some-new-2.new c.in-Some.is c.in-Some-new-2.is c.cut-old_halves.ensures c.cut-new_halves.ensures c.requires))

pub first_change-requires-2 : goal.first_change-requires-2
first_change-requires-2 g t c κs within =
    let fewer = fewer_below c.args.old c.args.new c.in-Some.old c.in-Some-new-2.new c.in-Some.is c.in-Some-new-2.is c.cut-old_halves.ensures c.cut-new_halves.ensures c.sound.ensures c.sound-2.ensures c.parting-split.ensures in
    let d = c.decreases in
    (omega (arith, d, fewer), (search rules, agree_below c.args.old c.args.new c.in-Some.old c.in-Some-new-2.new c.in-Some.is c.in-Some-new-2.is c.cut-old_halves.ensures c.cut-new_halves.ensures c.requires))

pub first_change-requires-in-None-first_change : goal.first_change-requires-in-None-first_change
first_change-requires-in-None-first_change g t c κs within =
    let fewer = fewer_rest c.args.old c.args.new c.in-Some.old c.in-Some-new-2.new c.in-Some.is c.in-Some-new-2.is c.cut-old_halves.ensures c.cut-new_halves.ensures c.sound.ensures c.sound-2.ensures c.parting-split.ensures in
    let d = c.decreases in
    (omega (arith, d, fewer), (search rules, agree_rest c.args.old c.args.new c.in-Some.old c.in-Some-new-2.new c.in-Some.is c.in-Some-new-2.is c.cut-old_halves.ensures c.cut-new_halves.ensures c.requires))

pub returns-in-None-first_change : goal.returns-in-None-first_change
returns-in-None-first_change g t c =
    in_rest c.args.old c.args.new c.in-Some.old c.in-Some-new-2.new c.in-Some.is c.in-Some-new-2.is c.cut-old_halves.ensures c.cut-new_halves.ensures c.args.last.now _ c.in-None-first_change.ensures c.first_change-in-None-first_change.ensures
