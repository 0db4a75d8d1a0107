use Rattle.std.proofs.Common.{◌≡◌, ◌<◌, ◌++◌, ◌∷◌, [], List, All, length, arith, ap, sym, ◌∙◌, subst}
use Rattle.std.proofs.lemmas.List.Elements.{All-push}
use Rattle.turn_book.specs.Closing.{HoldsNothing}
use Rattle.shared_laws.specs.Callers.{Seen}
use Rattle.agent_shared.proofs.Passing.{moves}
use Rattle.agent_shared.proofs.passes.seats_of.Goals as goal

pub loop-seats-preserved : goal.loop-seats-preserved
loop-seats-preserved g c =
    let l = c.loop-seats in
    let x = c.remove-in-loop-seats.result in
    let some : 0 < length l.passes.items = omega (arith, l.passes.ok.0, c.remove-in-loop-seats.ensures.len) in
    let next : c.push_reserved.new.self.items ≡ l.seats.items ++ x ∷ [] = c.push_reserved.ensures.items ∙ ap (λ (s : Seen). l.seats.items ++ s ∷ []) c.seat_of.ensures.same in record {
      all = moves l.seats.items c.push_reserved.new.self.items l.passes.items c.remove-in-loop-seats.new.self.items c.args.passes.items x some c.remove-in-loop-seats.ensures.value next c.remove-in-loop-seats.ensures.items l.invariant.all;
      room = omega (arith, c.push_reserved.ensures.len, c.push_reserved.ensures.capacity, c.remove-in-loop-seats.ensures.len, l.invariant.room);
      free = subst (λ (w : List Seen). All (λ p. HoldsNothing p) w) (sym next) (All-push (λ (p : Seen). HoldsNothing p) l.seats.items x l.invariant.free c.seat_of.ensures.free);
    }
