-- What the rule says at the end.
use Rattle.std.proofs.Common.{◌≡◌, ℕ, true, false, List, length, refl, sym, ap, ◌∙◌, subst, ⊎_elim, arith, Some}
use Rattle.std.proofs.lemmas.Bool.{eqb-false}
use mathlib.Core.Option.{Option, some}
use Rattle.keyed.specs.Prefix.{IsPrefix}
use lib.ListN.{get_elem?}
use Rattle.atomic_table.specs.Table.{State, Me}
use Rattle.turn_book.specs.declared.view.View.{View}
use Rattle.turn_book.specs.declared.view.Ended.{Ended}
use Rattle.turn_book.specs.declared.view.Held.{Held}
use Rattle.turn_book.specs.declared.view.Held.TheVariants.{Desk, Chip}
use Rattle.turn_book.specs.Lists.{own, AreNumbered, rounds_of, strip}
use Rattle.turn_book.specs.Means.{Means}
use Rattle.turn_book.specs.Rule.{Where, home, out, turn_of, World, Live, Fits, MayHold, DeskIs, ChipIs, Kept}
use Rattle.turn_book.specs.Steps.{Ends, HasAll}

module _ {V W G S R : Type 0} (m : Means V W G S R) where
  abbrev D : Type 0
  D = View G S R

  abbrev H : Type 0
  H = Held V W

  abbrev M : Type 0
  M = Me H D

  module _ (base : G) (callers : ℕ) where
    abbrev St : Type 0
    St = State H D

    abbrev Rule : St → Type 0
    Rule = Kept m base callers

    -- where a seat without a turn has taken in all others, both values are home
    pub ends : (s : St) (r : Rule s) (id : ℕ) (d : D) → get_elem? s.views id ≡ some d → d.spent ≡ false → d.desk_turn ≡ false → d.chip_turn ≡ false → HasAll d
        → (v : V) × (w : W) × (get_elem? s.homes 0 ≡ some (some (Desk v))) × (get_elem? s.homes 1 ≡ some (some (Chip w))) × Ends m d v w
    ends s r id d at unspent idle idle_chip all = (
      v,
      w,
      ap (λ (hs : List (Option H)). get_elem? hs 0) r.homes ∙ ap some desk.1,
      ap (λ (hs : List (Option H)). get_elem? hs 1) r.homes ∙ ap some chip.1,
      record {
        journal = desk.3 ∙ sym chip.2;
        opening = ap Some desk.4 ∙ sym l.told.1;
        chip_opening = ap Some chip.3 ∙ sym l.told.1;
        settled = subst (λ (z : List S × List R). IsPrefix (strip m.subs z.1) z.0) (λ i. (sym desk.2 i, sym desk.3 i)) r.lists.settled;
        numbered = λ i. subst (λ (z : List S). AreNumbered m.sequence (own m.caller i z)) (sym desk.2) (r.lists.numbered i);
        counters = x.counters;
        counted = r.lists.counters ∙ ap length (sym desk.3);
        no_others = λ i above. let few = r.lists.few in let c = l.told.0 in let u = r.lists.unmade i (omega arith) in (ap (own m.caller i) desk.2 ∙ u.0, u.1);
        last = record {
          seen = subst (IsPrefix d.seen) (sym desk.2) l.seen;
          jseen = subst (IsPrefix d.jseen) (sym desk.3) l.jseen;
          mine = l.mine ∙ (λ i. own m.caller (sym l.number i) (sym desk.2 i));
          rounds = l.rounds ∙ ap (λ i. rounds_of i 0 x.counters) (sym l.number);
        };
        others = λ k e p. let o = l.ended k e p in record {
          seen = subst (IsPrefix e.seen) (sym desk.2) o.seen;
          jseen = subst (IsPrefix e.jseen) (sym desk.3) o.jseen;
          mine = o.mine ∙ ap (own m.caller e.number) (sym desk.2);
          rounds = o.rounds;
        };
        apart = l.apart;
        last_apart = λ k e p same. let o = l.ended k e p in
            let t : true ≡ false = sym o.spent ∙ (ap x.spent (same ∙ l.number) ∙ (sym f.spent ∙ unspent)) in cc t;
      },
    )
      where
        x : World S R
        x = r.world

        f : Fits m.caller x base callers r.desk_at r.chip_at id d
        f = r.each id d at

        l : Live m.caller x base callers id d
        l = f.live unspent

        -- who holds a value has not ended, and is not the last
        no_one : (a : Where) (k : ℕ) → a ≡ out k → turn_of a id ≡ false → MayHold m base x k → ⊥
        no_one a k e none_here may =
            let few = r.lists.few in let below = may.0 in let c = l.told.0 in
            ⊎_elim
            (λ (t : d.number ≡ k). eqb-false id k (ap (λ (q : Where). turn_of q id) (sym e) ∙ none_here) (sym l.number ∙ t))
            (λ (t : (i : ℕ) × (q : Ended S R) × (get_elem? d.ended i ≡ some q) × (q.number ≡ k)). (let o = l.ended t.0 t.1 t.2 in let u : true ≡ false = sym o.spent ∙ (ap x.spent t.3 ∙ may.1) in cc u))
            (all k (omega arith))

        desk_home : (a : Where) → r.desk_at ≡ a → DeskIs m base x a r.desk → DeskIs m base x home r.desk
        desk_home home e is = is
        desk_home (out k) e is = absurd (no_one r.desk_at k e (sym f.desk_turn ∙ idle) is.1)

        chip_home : (a : Where) → r.chip_at ≡ a → ChipIs m base x a r.chip → ChipIs m base x home r.chip
        chip_home home e is = is
        chip_home (out k) e is = absurd (no_one r.chip_at k e (sym f.chip_turn ∙ idle_chip) is.1)

        desk : DeskIs m base x home r.desk
        desk = desk_home r.desk_at refl r.desk_is

        chip : ChipIs m base x home r.chip
        chip = chip_home r.chip_at refl r.chip_is

        v : V
        v = desk.0

        w : W
        w = chip.0
