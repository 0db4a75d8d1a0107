-- The steps on the desk keep the rule.
use Rattle.std.proofs.Common.{◌≡◌, ◌≢◌, ℕ, eq-eqb, ne_eqb, true, false, List, [], ◌∷◌, length, get_or, set, refl, sym, ap, ◌∙◌, subst, arith, Some, unwrap_or}
use mathlib.Core.Option.{Option, some, none}
use Rattle.keyed.specs.Prefix.{IsPrefix, prefix_self}
use lib.ListN.{get_elem?}
use Rattle.atomic_table.specs.Table.{State, Me, step, Act, keeps, takes, gives, Valid, carried_after, stepped, Allows}
use Rattle.turn_book.specs.declared.view.View.{View}
use Rattle.turn_book.specs.declared.view.Held.{Held}
use Rattle.turn_book.specs.declared.view.Held.TheVariants.{Desk}
use Rattle.turn_book.specs.Lists.{own, strip}
use Rattle.turn_book.specs.Means.{Means}
use Rattle.turn_book.specs.Rule.{Where, home, out, word_of, turn_of, World, Live, Fits, DeskIs, Kept}
use Rattle.turn_book.specs.Steps.{took, missed, gave, Takes, Puts}
use Rattle.turn_book.proofs.Keeps.{moves, fits_where, has_turn, inside, agree, here}

module _ {V W G S R : Type 0} (m : Means V W G S R) where
  abbrev D : Type 0
  D = View G S R

  abbrev H : Type 0
  H = Held V W

  abbrev M : Type 0
  M = Me H D

  module _ (base : G) (callers : ℕ) where
    abbrev St : Type 0
    St = State H D

    abbrev Rule : St → Type 0
    Rule = Kept m base callers

    pub takes_desk : (slots id : ℕ) (me : M) (tried : ℕ) → me.0.spent ≡ false → me.0.desk_turn ≡ false → Allows Rule slots id me 2 (λ _. 0) (Takes m tried (step slots 2 0 0 none) me)
    takes_desk slots id me tried unspent free s r _ at _ = go r.desk_at refl
      where
        d : D
        d = me.0

        x : World S R
        x = r.world

        f : Fits m.caller x base callers r.desk_at r.chip_at id d
        f = r.each id d at

        l : Live m.caller x base callers id d
        l = f.live unspent

        go : (a : Where) → r.desk_at ≡ a
            → (w : D) × (act : Act H) × Valid s.homes me.1 act × Rule (stepped s 2 0 id me.1 w act) × Takes m tried (step slots 2 0 0 none) me (get_or s.words 2 0) (w, carried_after me.1 act)
        go home e =
            let is : DeskIs m base x home r.desk = subst (λ (z : Where). DeskIs m base x z r.desk) e r.desk_is in
            let v : V = is.0 in
            let w : D = took tried (m.sent v) (m.done v) d in
            let words : s.words ≡ length x.log ∷ length (strip m.subs x.journal) ∷ 1 ∷ word_of r.chip_at ∷ [] = r.words ∙ ap (λ (z : Where). length x.log ∷ length (strip m.subs x.journal) ∷ word_of z ∷ word_of r.chip_at ∷ []) e in
            let found : get_or s.words 2 0 ≡ 1 = ap (λ (ws : List ℕ). get_or ws 2 0) words in
            let mine : d.mine ≡ own m.caller id (m.sent v) = l.mine ∙ ap (own m.caller id) (sym is.2) in
            let gs : length x.counters ≡ length (m.done v) = r.lists.counters ∙ ap length (sym is.3) in
            let kept : Rule (stepped s 2 0 id me.1 w (takes 0 (Desk v))) = moves m base callers s r id w x (out id) r.chip_at none r.chip (set s.words 2 0) (set s.homes 0 none) (ap (λ (ws : List ℕ). set ws 2 0) words) (ap (λ (hs : List (Option H)). set hs 0 none) r.homes) refl
            (refl, (inside m base callers s r id d at, sym f.spent ∙ unspent)) r.chip_is r.lists
            record {
              spent = f.spent;
              desk_turn = sym (eq-eqb id id refl);
              chip_turn = f.chip_turn;
              live = λ _. record {
                number = l.number;
                told = l.told;
                seen = subst (λ (z : List S). IsPrefix z x.log) (sym is.2) (prefix_self x.log);
                jseen = subst (λ (z : List R). IsPrefix z x.journal) (sym is.3) (prefix_self x.journal);
                whole = λ _. (is.2, is.3);
                chip_whole = λ _. is.3;
                mine = l.mine;
                mine_seen = mine;
                rounds = l.rounds;
                rounds_seen = (x.counters, prefix_self x.counters, gs, l.rounds);
                makes = l.makes;
                ended = l.ended;
                apart = l.apart;
              };
            }
            (λ j y other g. fits_where m base callers x r.desk_at r.chip_at (out id) r.chip_at j y g (ap (λ (z : Where). turn_of z j) e ∙ sym (ne_eqb j id other)) refl) in (
              w,
              takes 0 (Desk v),
              ap (λ (hs : List (Option H)). get_elem? hs 0) r.homes ∙ ap some is.1,
              kept,
              (
                (λ _. (
                  v,
                  refl,
                  record {
                    opening = ap Some is.4 ∙ sym l.told.1;
                    seen = subst (IsPrefix d.seen) (sym is.2) l.seen;
                    jseen = subst (IsPrefix d.jseen) (sym is.3) l.jseen;
                    settled = subst (λ (z : List S × List R). IsPrefix (strip m.subs z.1) z.0) (λ i. (sym is.2 i, sym is.3 i)) r.lists.settled;
                    under_chip = λ has. is.3 ∙ sym (l.chip_whole has);
                  },
                )),
                (λ not. absurd (not found)),
                agree m base callers _ kept id w (here m base callers s id d w at) unspent,
              ),
            )
        go (out k) e =
            let words : s.words ≡ length x.log ∷ length (strip m.subs x.journal) ∷ 0 ∷ word_of r.chip_at ∷ [] = r.words ∙ ap (λ (z : Where). length x.log ∷ length (strip m.subs x.journal) ∷ word_of z ∷ word_of r.chip_at ∷ []) e in
            let found : get_or s.words 2 0 ≡ 0 = ap (λ (ws : List ℕ). get_or ws 2 0) words in
            let is : DeskIs m base x (out k) r.desk = subst (λ (z : Where). DeskIs m base x z r.desk) e r.desk_is in
            let w : D = missed tried d in
            let kept : Rule (stepped s 2 0 id me.1 w keeps) = moves m base callers s r id w x r.desk_at r.chip_at r.desk r.chip (set s.words 2 0) s.homes (ap (λ (ws : List ℕ). set ws 2 0) words ∙ (sym words ∙ r.words)) r.homes refl r.desk_is r.chip_is r.lists
            record {
              spent = f.spent;
              desk_turn = f.desk_turn;
              chip_turn = f.chip_turn;
              live = λ _. record {
                number = l.number;
                told = l.told;
                seen = l.seen;
                jseen = l.jseen;
                whole = l.whole;
                chip_whole = l.chip_whole;
                mine = l.mine;
                mine_seen = l.mine_seen;
                rounds = l.rounds;
                rounds_seen = l.rounds_seen;
                makes = l.makes;
                ended = l.ended;
                apart = l.apart;
              };
            }
            (λ j y other g. g) in (
              w,
              keeps,
              tt,
              kept,
              (
                (λ yes. absurd (omega arith)),
                (λ _. (
                  refl,
                  (let few = r.lists.few in
                      let few_k = is.1.0 in
                      let h = inside m base callers s r id d at in
                      let c = l.told.0 in
                      let apart : id ≢ k = λ same. (let t : true ≡ false = sym (eq-eqb id k same) ∙ (ap (λ (z : Where). turn_of z id) (sym e) ∙ (sym f.desk_turn ∙ free)) in cc t) in
                      omega arith),
                )),
                agree m base callers _ kept id w (here m base callers s id d w at) unspent,
              ),
            )

    pub gives_desk : (slots id : ℕ) (me : M) (v : V) (cs : List (ℕ × H)) → me.0.spent ≡ false → me.0.desk_turn ≡ true → me.1 ≡ (0, Desk v) ∷ cs → m.sent v ≡ me.0.seen → m.done v ≡ me.0.jseen → Some (m.opening v) ≡ me.0.opening
        → Allows Rule slots id me 2 (λ _. 1) (λ _. Puts (step slots 2 1 0 none) me 1)
    gives_desk slots id me v cs unspent has hand sent done basis = subst (λ (c : List (ℕ × H)). Allows Rule slots id (me.0, c) 2 (λ _. 1) (λ _. Puts (step slots 2 1 0 none) (me.0, c) 1)) (sym hand) go
      where
        d : D
        d = me.0

        go : Allows Rule slots id (d, (0, Desk v) ∷ cs) 2 (λ _. 1) (λ _. Puts (step slots 2 1 0 none) (d, (0, Desk v) ∷ cs) 1)
        go s r _ at _ =
            let f = r.each id d at in
            let l = f.live unspent in
            let e : r.desk_at ≡ out id = has_turn m base callers r.desk_at id (sym has ∙ f.desk_turn) in
            let whole = l.whole has in (
              gave d,
              gives,
              tt,
              moves m base callers s r id (gave d) r.world home r.chip_at (some (Desk v)) r.chip (set s.words 2 1) (set s.homes 0 (some (Desk v))) (ap (λ (ws : List ℕ). set ws 2 1) r.words) (ap (λ (hs : List (Option H)). set hs 0 (some (Desk v))) r.homes) refl
                  (v, refl, sent ∙ whole.0, done ∙ whole.1, ap (λ o. unwrap_or o base) (basis ∙ l.told.1)) r.chip_is r.lists
                  record {
                    spent = f.spent;
                    desk_turn = refl;
                    chip_turn = f.chip_turn;
                    live = λ _. record {
                      number = l.number;
                      told = l.told;
                      seen = l.seen;
                      jseen = l.jseen;
                      whole = λ yes. absurd cc;
                      chip_whole = l.chip_whole;
                      mine = l.mine;
                      mine_seen = l.mine_seen;
                      rounds = l.rounds;
                      rounds_seen = l.rounds_seen;
                      makes = l.makes;
                      ended = l.ended;
                      apart = l.apart;
                    };
                  }
                  (λ j y other g. fits_where m base callers r.world r.desk_at r.chip_at home r.chip_at j y g (ap (λ (z : Where). turn_of z j) e ∙ ne_eqb j id other) refl),
              refl,
            )
