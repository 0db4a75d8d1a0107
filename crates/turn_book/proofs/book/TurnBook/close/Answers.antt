use Rattle.std.proofs.Common.{rules, arith, ◌≡◌, ◌+◌, [], ◌∷◌, ◌++◌, length, length-append, refl, ap, sym, ◌∙◌, subst, unwrap_or}
use mathlib.Core.Logic.{dite}
use native.Mathlib.Decide.{ℕ_discrete}
use mathlib.Core.Option.{some, some-injective}
use Rattle.keyed.specs.Prefix.{IsPrefix, prefix_self, prefix_shorter}
use lib.ListN.{get_elem?}
use Rattle.atomic_table.proofs.Lists.{at_last, at_longer}
use Rattle.turn_book.specs.Lists.{own}
use Rattle.turn_book.specs.Passes.{IsPassOf}
use Rattle.turn_book.specs.Closing.{HoldsNothing}
use Rattle.turn_book.specs.Means.{Means, means}
use Rattle.turn_book.specs.Steps.{ended_of, hand_of}
use Rattle.turn_book.proofs.Own.{at_below}
use Rattle.turn_book.proofs.KeepsSeats.{joins_in}
use Rattle.turn_book.proofs.Closes.{end_of, all_at, at_all, prefix_last, part_at, once, has_all}
use Rattle.turn_book.proofs.book.TurnBook.close.Goals as goal

pub loop-pass-init : goal.loop-pass-init
loop-pass-init g c =
    let rest = c.pop.new.self.items in
    let last = c.in-Some.pass in
    let whole : c.args.passes.items ≡ rest ++ last ∷ [] = search rules in
    let at : get_elem? c.args.passes.items (length rest) ≡ some last = ap (λ l. get_elem? l (length rest)) whole ∙ at_last rest last (length rest) refl in
    let free = at_all HoldsNothing c.args.passes.items (length rest) last c.requires.free at in
    let hand : c.pass.inside.seat.me.1 ≡ [] = c.pass.invariant.hand ∙ (λ i. hand_of ((ap (λ p. p.holds_desk) c.pass.view_is ∙ free.desk) i) ((ap (λ p. p.holds_chip) c.pass.view_is ∙ free.chip) i)) in
    let none_ended : length c.pass.inside.seat.me.0.ended ≡ 0 = ap length c.pass.invariant.none_ended in
    record {
      table = refl;
      view = λ i. (c.pass.inside.seat.me.0, hand i);
      left = prefix_self rest;
      count = omega arith;
      there = λ k p at_k le. absurd (let h = at_below rest k p at_k in omega arith);
    }

pub join_seat-requires : goal.join_seat-requires
join_seat-requires g c =
    let rest = c.pop.new.self.items in
    let last = c.in-Some.pass in
    let whole : c.args.passes.items ≡ rest ++ last ∷ [] = search rules in
    let at : get_elem? c.args.passes.items (length rest) ≡ some last = ap (λ l. get_elem? l (length rest)) whole ∙ at_last rest last (length rest) refl in
    let ours = at_all (IsPassOf c.args.self) c.args.passes.items (length rest) last c.requires.book at in
    let inv = c.loop-pass.invariant in
    let left = c.pop-in-loop-pass.new.self.items in
    let pass = c.in-Some-pop.pass in
    let items : c.loop-pass.rest.items ≡ left ++ pass ∷ [] = search rules in
    let at_rest = prefix_last left pass rest (subst (λ l. IsPrefix l rest) items inv.left) in
    let at_pass : get_elem? c.args.passes.items (length left) ≡ some pass = ap (λ l. get_elem? l (length left)) whole ∙ at_longer rest (last ∷ []) (length left) pass at_rest in
    let its = at_all (IsPassOf c.args.self) c.args.passes.items (length left) pass c.requires.book at_pass in
    let free = at_all HoldsNothing c.args.passes.items (length left) pass c.requires.free at_pass in
    let seat = c.pass-in-Some-pop in
    let book = sym (ap (λ b. b.id) c.self.view_is) in
    let idle = ap (λ p. p.holds_desk) seat.view_is ∙ free.desk in
    let idle_chip = ap (λ p. p.holds_chip) seat.view_is ∙ free.chip in (
      inv.table ∙ (ap (λ p. p.book) c.pass.view_is ∙ (ours.book ∙ book)),
      ap (λ p. p.book) seat.view_is ∙ (its.book ∙ book),
      seat.invariant.hand ∙ (λ i. hand_of (idle i) (idle_chip i)),
      search rules,
      joins_in _ _ _ _ _ _ _ (ap (λ m. m.0.spent) inv.view ∙ c.pass.invariant.unspent) seat.invariant.unspent idle idle_chip,
    )

pub loop-pass-preserved : goal.loop-pass-preserved
loop-pass-preserved g c =
    let rest = c.pop.new.self.items in
    let inv = c.loop-pass.invariant in
    let left = c.pop-in-loop-pass.new.self.items in
    let pass = c.in-Some-pop.pass in
    let seat = c.pass-in-Some-pop in
    let items : c.loop-pass.rest.items ≡ left ++ pass ∷ [] = search rules in
    let pre : IsPrefix (left ++ pass ∷ []) rest = subst (λ l. IsPrefix l rest) items inv.left in
    let e = c.join_seat.ensures.2 in
    let old = c.loop-pass.last.me.0.ended in
    let longer : c.join_seat.new.seat.me.0.ended ≡ old ++ end_of pass ∷ [] = ap (λ m. m.0.ended) e ∙ ap (λ p. old ++ end_of p ∷ []) seat.view_is in
    let long : length c.loop-pass.rest.items ≡ length left + 1 = ap length items ∙ length-append left (pass ∷ []) in
    let more : length c.join_seat.new.seat.me.0.ended ≡ length old + 1 = ap length longer ∙ length-append old (end_of pass ∷ []) in
    let count = inv.count in
    record {
      table = c.join_seat.ensures.0 ∙ inv.table;
      view = e ∙ (λ i. (record ((inv.view i).0) { ended = (sym (ap (λ m. m.0.ended) e)) i }, (inv.view i).1));
      left = prefix_shorter left (pass ∷ []) rest pre;
      count = omega arith;
      there = λ k p at le. dite (ℕ_discrete k (length left))
          (λ (eq : k ≡ length left). let same : p ≡ pass = some-injective p pass (sym at ∙ (ap (get_elem? rest) eq ∙ prefix_last left pass rest pre)) in
          (length old, omega arith, ap (λ l. get_elem? l (length old)) longer ∙ (at_last old (end_of pass) (length old) refl ∙ ap (λ q. some (end_of q)) (sym same))))
          (λ ne. let t = inv.there k p at (omega arith) in (t.0, t.1, ap (λ l. get_elem? l t.0) longer ∙ at_longer old (end_of pass ∷ []) t.0 (end_of p) t.2));
    }

pub finish-requires-clause-book : goal.finish-requires-clause-book
finish-requires-clause-book g c =
    let rest = c.pop.new.self.items in
    let last = c.in-Some.pass in
    let whole : c.args.passes.items ≡ rest ++ last ∷ [] = search rules in
    let at : get_elem? c.args.passes.items (length rest) ≡ some last = ap (λ l. get_elem? l (length rest)) whole ∙ at_last rest last (length rest) refl in
    let ours = at_all (IsPassOf c.args.self) c.args.passes.items (length rest) last c.requires.book at in
    c.loop-pass.invariant.table ∙ (ap (λ p. p.book) c.pass.view_is ∙ ours.book)

pub finish-requires-clause-free : goal.finish-requires-clause-free
finish-requires-clause-free g c =
    let rest = c.pop.new.self.items in
    let last = c.in-Some.pass in
    let whole : c.args.passes.items ≡ rest ++ last ∷ [] = search rules in
    let at : get_elem? c.args.passes.items (length rest) ≡ some last = ap (λ l. get_elem? l (length rest)) whole ∙ at_last rest last (length rest) refl in
    let free = at_all HoldsNothing c.args.passes.items (length rest) last c.requires.free at in
    ap (λ m. m.0.desk_turn) c.loop-pass.invariant.view ∙ (ap (λ p. p.holds_desk) c.pass.view_is ∙ free.desk)

pub finish-requires-clause-chip_free : goal.finish-requires-clause-chip_free
finish-requires-clause-chip_free g c =
    let rest = c.pop.new.self.items in
    let last = c.in-Some.pass in
    let whole : c.args.passes.items ≡ rest ++ last ∷ [] = search rules in
    let at : get_elem? c.args.passes.items (length rest) ≡ some last = ap (λ l. get_elem? l (length rest)) whole ∙ at_last rest last (length rest) refl in
    let free = at_all HoldsNothing c.args.passes.items (length rest) last c.requires.free at in
    ap (λ m. m.0.chip_turn) c.loop-pass.invariant.view ∙ (ap (λ p. p.holds_chip) c.pass.view_is ∙ free.chip)

pub finish-requires-clause-all : goal.finish-requires-clause-all
finish-requires-clause-all g c =
    let rest = c.pop.new.self.items in
    let last = c.in-Some.pass in
    let inv = c.loop-pass.invariant in
    let whole : c.args.passes.items ≡ rest ++ last ∷ [] = search rules in
    let at : get_elem? c.args.passes.items (length rest) ≡ some last = ap (λ l. get_elem? l (length rest)) whole ∙ at_last rest last (length rest) refl in
    let ours = at_all (IsPassOf c.args.self) c.args.passes.items (length rest) last c.requires.book at in
    let none_left : length c.loop-pass.rest.items ≡ 0 = search rules in
    has_all c.loop-pass.last.me.0 c.args.passes.items rest last whole (ap end_of (sym c.pass.view_is) ∙ sym (ap (λ m. ended_of m.0) inv.view)) (λ k p at_k. inv.there k p at_k (omega arith))
    c.args.self (ap (λ m. m.0.callers) inv.view ∙ (ap (λ p. p.callers) c.pass.view_is ∙ ours.callers)) c.requires.all

pub returns-clause-opening : goal.returns-clause-opening
returns-clause-opening g c =
    let rest = c.pop.new.self.items in
    let last = c.in-Some.pass in
    let whole : c.args.passes.items ≡ rest ++ last ∷ [] = search rules in
    let at : get_elem? c.args.passes.items (length rest) ≡ some last = ap (λ l. get_elem? l (length rest)) whole ∙ at_last rest last (length rest) refl in
    let ours = at_all (IsPassOf c.args.self) c.args.passes.items (length rest) last c.requires.book at in
    let known = ap (λ m. m.0.opening) c.loop-pass.invariant.view ∙ (ap (λ p. p.opening) c.pass.view_is ∙ ours.opening) in
    ap (λ o. unwrap_or o c.args.self.opening) (c.finish.ensures.opening ∙ known)

pub returns-clause-chip_opening : goal.returns-clause-chip_opening
returns-clause-chip_opening g c =
    let rest = c.pop.new.self.items in
    let last = c.in-Some.pass in
    let whole : c.args.passes.items ≡ rest ++ last ∷ [] = search rules in
    let at : get_elem? c.args.passes.items (length rest) ≡ some last = ap (λ l. get_elem? l (length rest)) whole ∙ at_last rest last (length rest) refl in
    let ours = at_all (IsPassOf c.args.self) c.args.passes.items (length rest) last c.requires.book at in
    let known = ap (λ m. m.0.opening) c.loop-pass.invariant.view ∙ (ap (λ p. p.opening) c.pass.view_is ∙ ours.opening) in
    ap (λ o. unwrap_or o c.args.self.opening) (c.finish.ensures.chip_opening ∙ known)

pub returns-clause-seen : goal.returns-clause-seen
returns-clause-seen g c =
    let m : Means g.row.V.Denot g.row.W.Denot g.row.V-Ground.Denot g.row.V-Sub.Denot g.row.V-Round.Denot = means g.V.Settles.opening g.V.Stands.sent g.V.Settles.done g.V.Settles.caller g.V.Settles.sequence g.V.Settles.subs g.W.Settles.opening g.W.Settles.done in
    let inv = c.loop-pass.invariant in
    let whole : c.args.passes.items ≡ c.pop.new.self.items ++ c.in-Some.pass ∷ [] = search rules in
    let none_left : length c.loop-pass.rest.items ≡ 0 = search rules in
    all_at (λ p. IsPrefix p.seen (g.V.Stands.sent c.finish.result.0)) c.args.passes.items
    (λ k p at. (part_at m c.loop-pass.last.me.0 c.finish.result.0 c.finish.result.1 c.finish.ensures c.args.passes.items c.pop.new.self.items c.in-Some.pass whole (ap end_of (sym c.pass.view_is) ∙ sym (ap (λ q. ended_of q.0) inv.view)) (λ k p at_k. inv.there k p at_k (omega arith)) k p at).seen)

pub returns-clause-jseen : goal.returns-clause-jseen
returns-clause-jseen g c =
    let m : Means g.row.V.Denot g.row.W.Denot g.row.V-Ground.Denot g.row.V-Sub.Denot g.row.V-Round.Denot = means g.V.Settles.opening g.V.Stands.sent g.V.Settles.done g.V.Settles.caller g.V.Settles.sequence g.V.Settles.subs g.W.Settles.opening g.W.Settles.done in
    let inv = c.loop-pass.invariant in
    let whole : c.args.passes.items ≡ c.pop.new.self.items ++ c.in-Some.pass ∷ [] = search rules in
    let none_left : length c.loop-pass.rest.items ≡ 0 = search rules in
    all_at (λ p. IsPrefix p.jseen (g.V.Settles.done c.finish.result.0)) c.args.passes.items
    (λ k p at. (part_at m c.loop-pass.last.me.0 c.finish.result.0 c.finish.result.1 c.finish.ensures c.args.passes.items c.pop.new.self.items c.in-Some.pass whole (ap end_of (sym c.pass.view_is) ∙ sym (ap (λ q. ended_of q.0) inv.view)) (λ k p at_k. inv.there k p at_k (omega arith)) k p at).jseen)

pub returns-clause-mine : goal.returns-clause-mine
returns-clause-mine g c =
    let m : Means g.row.V.Denot g.row.W.Denot g.row.V-Ground.Denot g.row.V-Sub.Denot g.row.V-Round.Denot = means g.V.Settles.opening g.V.Stands.sent g.V.Settles.done g.V.Settles.caller g.V.Settles.sequence g.V.Settles.subs g.W.Settles.opening g.W.Settles.done in
    let inv = c.loop-pass.invariant in
    let whole : c.args.passes.items ≡ c.pop.new.self.items ++ c.in-Some.pass ∷ [] = search rules in
    let none_left : length c.loop-pass.rest.items ≡ 0 = search rules in
    all_at (λ p. p.mine ≡ own g.V.Settles.caller p.number (g.V.Stands.sent c.finish.result.0)) c.args.passes.items
    (λ k p at. (part_at m c.loop-pass.last.me.0 c.finish.result.0 c.finish.result.1 c.finish.ensures c.args.passes.items c.pop.new.self.items c.in-Some.pass whole (ap end_of (sym c.pass.view_is) ∙ sym (ap (λ q. ended_of q.0) inv.view)) (λ k p at_k. inv.there k p at_k (omega arith)) k p at).mine)

pub returns-clause-no_others : goal.returns-clause-no_others
returns-clause-no_others g c i above =
    let rest = c.pop.new.self.items in
    let last = c.in-Some.pass in
    let whole : c.args.passes.items ≡ rest ++ last ∷ [] = search rules in
    let at : get_elem? c.args.passes.items (length rest) ≡ some last = ap (λ l. get_elem? l (length rest)) whole ∙ at_last rest last (length rest) refl in
    let ours = at_all (IsPassOf c.args.self) c.args.passes.items (length rest) last c.requires.book at in
    let known : c.loop-pass.last.me.0.callers ≡ c.args.self.callers = ap (λ m. m.0.callers) c.loop-pass.invariant.view ∙ (ap (λ p. p.callers) c.pass.view_is ∙ ours.callers) in
    (c.finish.ensures.no_others i (omega arith)).0

pub returns-clause-counted_once : goal.returns-clause-counted_once
returns-clause-counted_once g c =
    let m : Means g.row.V.Denot g.row.W.Denot g.row.V-Ground.Denot g.row.V-Sub.Denot g.row.V-Round.Denot = means g.V.Settles.opening g.V.Stands.sent g.V.Settles.done g.V.Settles.caller g.V.Settles.sequence g.V.Settles.subs g.W.Settles.opening g.W.Settles.done in
    let rest = c.pop.new.self.items in
    let last = c.in-Some.pass in
    let inv = c.loop-pass.invariant in
    let whole : c.args.passes.items ≡ rest ++ last ∷ [] = search rules in
    let at : get_elem? c.args.passes.items (length rest) ≡ some last = ap (λ l. get_elem? l (length rest)) whole ∙ at_last rest last (length rest) refl in
    let ours = at_all (IsPassOf c.args.self) c.args.passes.items (length rest) last c.requires.book at in
    let none_left : length c.loop-pass.rest.items ≡ 0 = search rules in
    once m c.loop-pass.last.me.0 c.finish.result.0 c.finish.result.1 c.finish.ensures c.args.passes.items rest last whole (ap end_of (sym c.pass.view_is) ∙ sym (ap (λ q. ended_of q.0) inv.view)) (λ k p at_k. inv.there k p at_k (omega arith))
    c.args.self (ap (λ q. q.0.callers) inv.view ∙ (ap (λ p. p.callers) c.pass.view_is ∙ ours.callers)) c.requires.all
