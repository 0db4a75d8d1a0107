-- The steps on the chip side keep the rule.
use Rattle.std.proofs.Common.{◌≡◌, ℕ, eq-eqb, ne_eqb, true, false, List, [], ◌∷◌, length, get_or, set, refl, sym, ap, ◌∙◌, subst, arith, Some, unwrap_or}
use mathlib.Core.Option.{Option, some, none}
use Rattle.keyed.specs.Prefix.{IsPrefix, prefix_self}
use lib.ListN.{get_elem?}
use Rattle.atomic_table.specs.Table.{State, Me, step, Act, keeps, takes, gives, Valid, carried_after, stepped, Allows}
use Rattle.turn_book.specs.declared.view.View.{View}
use Rattle.turn_book.specs.declared.view.Held.{Held}
use Rattle.turn_book.specs.declared.view.Held.TheVariants.{Chip}
use Rattle.turn_book.specs.Lists.{strip}
use Rattle.turn_book.specs.Means.{Means}
use Rattle.turn_book.specs.Rule.{Where, home, out, word_of, turn_of, World, Live, Fits, ChipIs, Kept}
use Rattle.turn_book.specs.Steps.{took_chip, gave_chip, TakesChip, PutsChip}
use Rattle.turn_book.proofs.Keeps.{moves, fits_where, has_turn, inside, agree, here}

module _ {V W G S R : Type 0} (m : Means V W G S R) where
  abbrev D : Type 0
  D = View G S R

  abbrev H : Type 0
  H = Held V W

  abbrev M : Type 0
  M = Me H D

  module _ (base : G) (callers : ℕ) where
    abbrev St : Type 0
    St = State H D

    abbrev Rule : St → Type 0
    Rule = Kept m base callers

    pub takes_chip : (slots id : ℕ) (me : M) → me.0.spent ≡ false → me.0.chip_turn ≡ false → me.0.desk_turn ≡ false → Allows Rule slots id me 3 (λ _. 0) (TakesChip m (step slots 3 0 0 none) me)
    takes_chip slots id me unspent free idle s r _ at _ = go r.chip_at refl
      where
        d : D
        d = me.0

        x : World S R
        x = r.world

        f : Fits m.caller x base callers r.desk_at r.chip_at id d
        f = r.each id d at

        l : Live m.caller x base callers id d
        l = f.live unspent

        go : (b : Where) → r.chip_at ≡ b
            → (w : D) × (act : Act H) × Valid s.homes me.1 act × Rule (stepped s 3 0 id me.1 w act) × TakesChip m (step slots 3 0 0 none) me (get_or s.words 3 0) (w, carried_after me.1 act)
        go home e =
            let is : ChipIs m base x home r.chip = subst (λ (z : Where). ChipIs m base x z r.chip) e r.chip_is in
            let c : W = is.0 in
            let w : D = took_chip (m.chip_done c) d in
            let words : s.words ≡ length x.log ∷ length (strip m.subs x.journal) ∷ word_of r.desk_at ∷ 1 ∷ [] = r.words ∙ ap (λ (z : Where). length x.log ∷ length (strip m.subs x.journal) ∷ word_of r.desk_at ∷ word_of z ∷ []) e in
            let found : get_or s.words 3 0 ≡ 1 = ap (λ (ws : List ℕ). get_or ws 3 0) words in
            let gs : length x.counters ≡ length (m.chip_done c) = r.lists.counters ∙ ap length (sym is.2) in
            let kept : Rule (stepped s 3 0 id me.1 w (takes 1 (Chip c))) = moves m base callers s r id w x r.desk_at (out id) r.desk none (set s.words 3 0) (set s.homes 1 none) (ap (λ (ws : List ℕ). set ws 3 0) words) (ap (λ (hs : List (Option H)). set hs 1 none) r.homes) refl
            r.desk_is (refl, (inside m base callers s r id d at, sym f.spent ∙ unspent)) r.lists
            record {
              spent = f.spent;
              desk_turn = f.desk_turn;
              chip_turn = sym (eq-eqb id id refl);
              live = λ _. record {
                number = l.number;
                told = l.told;
                seen = l.seen;
                jseen = subst (λ (z : List R). IsPrefix z x.journal) (sym is.2) (prefix_self x.journal);
                whole = λ yes. absurd (let t : true ≡ false = sym yes ∙ idle in cc t);
                chip_whole = λ _. is.2;
                mine = l.mine;
                mine_seen = l.mine_seen;
                rounds = l.rounds;
                rounds_seen = (x.counters, prefix_self x.counters, gs, l.rounds);
                makes = l.makes;
                ended = l.ended;
                apart = l.apart;
              };
            }
            (λ j y other g. fits_where m base callers x r.desk_at r.chip_at r.desk_at (out id) j y g refl (ap (λ (z : Where). turn_of z j) e ∙ sym (ne_eqb j id other))) in (
              w,
              takes 1 (Chip c),
              ap (λ (hs : List (Option H)). get_elem? hs 1) r.homes ∙ ap some is.1,
              kept,
              (
                (λ _. (
                  c,
                  refl,
                  record {
                    opening = ap Some is.3 ∙ sym l.told.1;
                    jseen = subst (IsPrefix d.jseen) (sym is.2) l.jseen;
                  },
                )),
                (λ not. absurd (not found)),
                agree m base callers _ kept id w (here m base callers s id d w at) unspent,
              ),
            )
        go (out k) e =
            let words : s.words ≡ length x.log ∷ length (strip m.subs x.journal) ∷ word_of r.desk_at ∷ 0 ∷ [] = r.words ∙ ap (λ (z : Where). length x.log ∷ length (strip m.subs x.journal) ∷ word_of r.desk_at ∷ word_of z ∷ []) e in
            let found : get_or s.words 3 0 ≡ 0 = ap (λ (ws : List ℕ). get_or ws 3 0) words in (
              d,
              keeps,
              tt,
              moves m base callers s r id d x r.desk_at r.chip_at r.desk r.chip (set s.words 3 0) s.homes (ap (λ (ws : List ℕ). set ws 3 0) words ∙ (sym words ∙ r.words)) r.homes refl r.desk_is r.chip_is r.lists f (λ j y other g. g),
              ((λ yes. absurd (omega arith)), (λ _. refl), agree m base callers s r id d at unspent),
            )

    pub gives_chip : (slots id : ℕ) (me : M) (c : W) (cs : List (ℕ × H)) → me.0.spent ≡ false → me.0.chip_turn ≡ true → me.1 ≡ (1, Chip c) ∷ cs → m.chip_done c ≡ me.0.jseen → Some (m.chip_opening c) ≡ me.0.opening
        → Allows Rule slots id me 3 (λ _. 1) (λ _. PutsChip (step slots 3 1 0 none) me 1)
    gives_chip slots id me c cs unspent has hand done basis = subst (λ (z : List (ℕ × H)). Allows Rule slots id (me.0, z) 3 (λ _. 1) (λ _. PutsChip (step slots 3 1 0 none) (me.0, z) 1)) (sym hand) go
      where
        d : D
        d = me.0

        go : Allows Rule slots id (d, (1, Chip c) ∷ cs) 3 (λ _. 1) (λ _. PutsChip (step slots 3 1 0 none) (d, (1, Chip c) ∷ cs) 1)
        go s r _ at _ =
            let f = r.each id d at in
            let l = f.live unspent in
            let e : r.chip_at ≡ out id = has_turn m base callers r.chip_at id (sym has ∙ f.chip_turn) in (
              gave_chip d,
              gives,
              tt,
              moves m base callers s r id (gave_chip d) r.world r.desk_at home r.desk (some (Chip c)) (set s.words 3 1) (set s.homes 1 (some (Chip c))) (ap (λ (ws : List ℕ). set ws 3 1) r.words) (ap (λ (hs : List (Option H)). set hs 1 (some (Chip c))) r.homes) refl
                  r.desk_is (c, refl, done ∙ l.chip_whole has, ap (λ o. unwrap_or o base) (basis ∙ l.told.1)) r.lists
                  record {
                    spent = f.spent;
                    desk_turn = f.desk_turn;
                    chip_turn = refl;
                    live = λ _. record {
                      number = l.number;
                      told = l.told;
                      seen = l.seen;
                      jseen = l.jseen;
                      whole = l.whole;
                      chip_whole = λ yes. absurd cc;
                      mine = l.mine;
                      mine_seen = l.mine_seen;
                      rounds = l.rounds;
                      rounds_seen = l.rounds_seen;
                      makes = l.makes;
                      ended = l.ended;
                      apart = l.apart;
                    };
                  }
                  (λ j y other g. fits_where m base callers r.world r.desk_at r.chip_at r.desk_at home j y g refl (ap (λ (z : Where). turn_of z j) e ∙ ne_eqb j id other)),
              refl,
            )
