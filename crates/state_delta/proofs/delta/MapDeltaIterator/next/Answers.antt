use Rattle.std.proofs.Common.{◌∙◌, sym, refl}
use Rattle.node_map.proofs.Later.{step_at, shorter}
use Rattle.state_delta.proofs.Listing.{next_in_delta, delta_is, first_none}
use Rattle.state_delta.specs.Delta.{delta}
use Rattle.state_delta.specs.Sides.{side_entries}
use Rattle.state_delta.proofs.delta.MapDeltaIterator.next.Goals as goal

pub returns-in-None-clause-steps : goal.returns-in-None-clause-steps
returns-in-None-clause-steps g c =
    let none = next_in_delta (side_entries c.self.inside.old) (side_entries c.self.inside.new) c.self.invariant.old_ascends c.self.invariant.new_ascends c.self.inside.last _ c.in-None.ensures in
    let empty = sym c.self.view_is ∙ first_none _ none in
    (empty, empty)

pub returns-in-Some-clause-steps : goal.returns-in-Some-clause-steps
returns-in-Some-clause-steps g c =
    let old = side_entries c.self.inside.old in
    let new = side_entries c.self.inside.new in
    let some = next_in_delta old new c.self.invariant.old_ascends c.self.invariant.new_ascends c.self.inside.last _ c.in-Some.ensures in
    step_at (delta old new) c.self.inside.last (delta_is old new c.self.invariant.old_ascends c.self.invariant.new_ascends).ascends c.self.view_is some refl refl refl

pub returns-in-Some-clause-goes : goal.returns-in-Some-clause-goes
returns-in-Some-clause-goes g c =
    let old = side_entries c.self.inside.old in
    let new = side_entries c.self.inside.new in
    let some = next_in_delta old new c.self.invariant.old_ascends c.self.invariant.new_ascends c.self.inside.last _ c.in-Some.ensures in
    let step = step_at (delta old new) c.self.inside.last (delta_is old new c.self.invariant.old_ascends c.self.invariant.new_ascends).ascends c.self.view_is some refl refl refl in
    record { on = λ _. (tt, tt, shorter step); keeps = tt; rests = λ _. tt }
