-- The counts keep the rule.
use Rattle.std.proofs.Common.{◌≡◌, ◌≢◌, ℕ, ◌+◌, ◌%◌, ◌^◌, ◌<◌, ◌≤◌, eqb-true, true, false, List, [], ◌∷◌, ◌++◌, length, get_or, set, refl, sym, ap, ◌∙◌, subst, arith, length-append}
use mathlib.Core.Logic.{dite}
use mathlib.Core.Option.{none}
use Rattle.keyed.specs.Prefix.{IsPrefix, prefix_self, prefix_longer, prefix_length}
use native.Mathlib.Decide.{ℕ_discrete}
use Rattle.atomic_table.specs.Table.{State, Me, step, keeps, stepped, Allows}
use Rattle.turn_book.specs.declared.view.View.{View}
use Rattle.turn_book.specs.declared.view.Ended.{Ended}
use Rattle.turn_book.specs.declared.view.Held.{Held}
use Rattle.turn_book.specs.Lists.{own, AreNumbered, rounds_of, strip}
use Rattle.turn_book.specs.Means.{Means}
use Rattle.turn_book.specs.Rule.{Where, out, word_of, turn_of, World, EndedOk, DeskIs, ChipIs, Kept}
use Rattle.turn_book.specs.Steps.{counted, settled, Counts, CountsRound}
use Rattle.turn_book.proofs.Own.{own_grows, own_stays, numbered_grow, strip_grows, rounds_grow, rounds_stay}
use Rattle.turn_book.proofs.Keeps.{moves, chip_same, has_turn, inside, agree, here}

module _ {V W G S R : Type 0} (m : Means V W G S R) where
  abbrev D : Type 0
  D = View G S R

  abbrev H : Type 0
  H = Held V W

  abbrev M : Type 0
  M = Me H D

  module _ (base : G) (callers : ℕ) where
    abbrev St : Type 0
    St = State H D

    abbrev Rule : St → Type 0
    Rule = Kept m base callers

    pub counts_one : (slots id : ℕ) (me : M) (log : List S) (x : S) → me.0.spent ≡ false → me.0.desk_turn ≡ true → log ≡ me.0.seen ++ x ∷ [] → m.caller x ≡ me.0.number → m.sequence x ≡ length me.0.mine → length me.0.seen + 1 < 2 ^ 64
        → Allows Rule slots id me 0 (λ k. (k + 1) % 2 ^ 64) (Counts m log (step slots 0 1 0 none) me)
    counts_one slots id me log x unspent has sent by place room s r _ at _ =
        let d : D = me.0 in
        let f = r.each id d at in
        let l = f.live unspent in
        let y : World S R = r.world in
        let e : r.desk_at ≡ out id = has_turn m base callers r.desk_at id (sym has ∙ f.desk_turn) in
        let whole = l.whole has in
        let grown : log ≡ y.log ++ x ∷ [] = sent ∙ ap (λ w. w ++ x ∷ []) whole.0 in
        let k : ℕ = get_or s.words 0 0 in
        let found : k ≡ length y.log = ap (λ (ws : List ℕ). get_or ws 0 0) r.words in
        let longer : length log ≡ length y.log + 1 = ap length grown ∙ length-append y.log (x ∷ []) in
        let same : length d.seen ≡ length y.log = ap length whole.0 in
        let next : (k + 1) % 2 ^ 64 ≡ length log = omega arith in
        let by_id : m.caller x ≡ id = by ∙ l.number in
        let w : D = counted m.caller log d in
        let z : World S R = record y { log = log } in
        let own_id : own m.caller id log ≡ own m.caller id y.log ++ x ∷ [] = ap (own m.caller id) grown ∙ own_grows m.caller id y.log x by_id in
        let own_else : (j : ℕ) → j ≢ id → own m.caller j log ≡ own m.caller j y.log = λ j other. ap (own m.caller j) grown ∙ own_stays m.caller j y.log x (λ q. other (sym q ∙ by_id)) in
        let place_id : m.sequence x ≡ length (own m.caller id y.log) = place ∙ ap length l.mine in
        let up : (xs : List S) → IsPrefix xs y.log → IsPrefix xs log = λ xs p. subst (IsPrefix xs) (sym grown) (prefix_longer xs y.log (x ∷ []) p) in
        let ended : (q : Ended S R) → EndedOk m.caller y q → EndedOk m.caller z q = λ q o. record {
          spent = o.spent;
          seen = up q.seen o.seen;
          jseen = o.jseen;
          mine = o.mine ∙ sym (own_else q.number (λ eq. let t : true ≡ false = sym o.spent ∙ (ap y.spent eq ∙ (sym f.spent ∙ unspent)) in absurd (cc t)));
          rounds = o.rounds;
        } in
        let ls = r.lists in
        let kept : Rule (stepped s 0 ((k + 1) % 2 ^ 64) id me.1 w keeps) = moves m base callers s r id w z r.desk_at r.chip_at r.desk r.chip (set s.words 0 ((k + 1) % 2 ^ 64)) s.homes (ap (λ (ws : List ℕ). set ws 0 ((k + 1) % 2 ^ 64)) r.words ∙ ap (λ (q : ℕ). q ∷ length (strip m.subs y.journal) ∷ word_of r.desk_at ∷ word_of r.chip_at ∷ []) next) r.homes refl
        (subst (λ (q : Where). DeskIs m base z q r.desk) (sym e) (subst (λ (q : Where). DeskIs m base y q r.desk) e r.desk_is))
        (chip_same m base callers y z r.chip_at r.chip refl refl refl r.chip_is)
        record {
          room = let q = longer in omega arith;
          settled = up (strip m.subs y.journal) ls.settled;
          counters = ls.counters;
          numbered = λ i. dite (ℕ_discrete i id) (λ eq. subst (λ (q : ℕ). AreNumbered m.sequence (own m.caller q log)) (sym eq) (subst (AreNumbered m.sequence) (sym own_id) (numbered_grow m.sequence (own m.caller id y.log) x place_id (ls.numbered id))))
              (λ other. subst (AreNumbered m.sequence) (sym (own_else i other)) (ls.numbered i));
          unmade = λ i above. let u = ls.unmade i above in (own_else i (λ eq. let h = inside m base callers s r id d at in absurd (omega arith)) ∙ u.0, u.1, u.2);
          few = ls.few;
        }
        record {
          spent = f.spent;
          desk_turn = f.desk_turn;
          chip_turn = f.chip_turn;
          live = λ _. record {
            number = l.number;
            told = l.told;
            seen = prefix_self log;
            jseen = l.jseen;
            whole = λ _. (refl, whole.1);
            chip_whole = l.chip_whole;
            mine = ap (λ i. own m.caller i log) l.number;
            mine_seen = ap (λ i. own m.caller i log) l.number;
            rounds = l.rounds;
            rounds_seen = l.rounds_seen;
            makes = l.makes;
            ended = λ q o p. ended o (l.ended q o p);
            apart = l.apart;
          };
        }
        (λ j b other g. record {
          spent = g.spent;
          desk_turn = g.desk_turn;
          chip_turn = g.chip_turn;
          live = λ alive. let o = g.live alive in record {
            number = o.number;
            told = o.told;
            seen = up b.seen o.seen;
            jseen = o.jseen;
            whole = λ yes. absurd (other (eqb-true j id (ap (λ (q : Where). turn_of q j) (sym e) ∙ (sym g.desk_turn ∙ yes))));
            chip_whole = o.chip_whole;
            mine = o.mine ∙ sym (own_else j other);
            mine_seen = o.mine_seen;
            rounds = o.rounds;
            rounds_seen = o.rounds_seen;
            makes = o.makes;
            ended = λ q u p. ended u (o.ended q u p);
            apart = o.apart;
          };
        }) in (
          w,
          keeps,
          tt,
          kept,
          (refl, agree m base callers _ kept id w (here m base callers s id d w at) unspent),
        )

    pub settles_round : (slots id : ℕ) (me : M) (journal : List R) (x : R) (k : ℕ) → me.0.spent ≡ false → me.0.desk_turn ≡ true → me.0.chip_turn ≡ true
        → journal ≡ me.0.jseen ++ x ∷ [] → k ≡ length (m.subs x) → IsPrefix (strip m.subs journal) me.0.seen
        → Allows Rule slots id me 1 (λ q. (q + k) % 2 ^ 64) (CountsRound m journal (step slots 1 k 0 none) me)
    settles_round slots id me journal x k unspent has has_chip done long pre s r _ at _ =
        let d : D = me.0 in
        let f = r.each id d at in
        let l = f.live unspent in
        let y : World S R = r.world in
        let ls = r.lists in
        let e : r.desk_at ≡ out id = has_turn m base callers r.desk_at id (sym has ∙ f.desk_turn) in
        let e' : r.chip_at ≡ out id = has_turn m base callers r.chip_at id (sym has_chip ∙ f.chip_turn) in
        let whole = l.whole has in
        let grown : journal ≡ y.journal ++ x ∷ [] = done ∙ ap (λ w. w ++ x ∷ []) whole.1 in
        let pre' : IsPrefix (strip m.subs journal) y.log = subst (IsPrefix (strip m.subs journal)) whole.0 pre in
        let q : ℕ = get_or s.words 1 0 in
        let found : q ≡ length (strip m.subs y.journal) = ap (λ (ws : List ℕ). get_or ws 1 0) r.words in
        let longer : length (strip m.subs journal) ≡ length (strip m.subs y.journal) + length (m.subs x) = ap (λ w. length (strip m.subs w)) grown ∙ (ap length (strip_grows m.subs y.journal x) ∙ length-append (strip m.subs y.journal) (m.subs x)) in
        let short : length (strip m.subs journal) ≤ length y.log = prefix_length (strip m.subs journal) y.log pre' in
        let room = ls.room in
        let next : (q + k) % 2 ^ 64 ≡ length (strip m.subs journal) = omega arith in
        let counters : List ℕ = y.counters ++ id ∷ [] in
        let w : D = settled journal d in
        let z : World S R = record y { journal = journal; counters = counters } in
        let rounds_id : d.rounds ++ length d.jseen ∷ [] ≡ rounds_of id 0 counters =
        (λ i. l.rounds i ++ (ap length whole.1 ∙ sym ls.counters) i ∷ []) ∙ sym (rounds_grow id y.counters) in
        let apart : (j : ℕ) → j ≢ id → rounds_of j 0 counters ≡ rounds_of j 0 y.counters = λ j other. rounds_stay j id y.counters (λ p. other (sym p)) in
        let count_id : length counters ≡ length journal = length-append y.counters (id ∷ []) ∙ (ap (λ (p : ℕ). p + 1) ls.counters ∙ (sym (length-append y.journal (x ∷ [])) ∙ ap length (sym grown))) in
        let up : (xs : List R) → IsPrefix xs y.journal → IsPrefix xs journal = λ xs p. subst (IsPrefix xs) (sym grown) (prefix_longer xs y.journal (x ∷ []) p) in
        let ended : (o : Ended S R) → EndedOk m.caller y o → EndedOk m.caller z o = λ o k. record {
          spent = k.spent;
          seen = k.seen;
          jseen = up o.jseen k.jseen;
          mine = k.mine;
          rounds = k.rounds ∙ sym (apart o.number (λ eq. let t : true ≡ false = sym k.spent ∙ (ap y.spent eq ∙ (sym f.spent ∙ unspent)) in absurd (cc t)));
        } in
        let kept : Rule (stepped s 1 ((q + k) % 2 ^ 64) id me.1 w keeps) = moves m base callers s r id w z r.desk_at r.chip_at r.desk r.chip (set s.words 1 ((q + k) % 2 ^ 64)) s.homes (ap (λ (ws : List ℕ). set ws 1 ((q + k) % 2 ^ 64)) r.words ∙ ap (λ (p : ℕ). length y.log ∷ p ∷ word_of r.desk_at ∷ word_of r.chip_at ∷ []) next) r.homes refl
        (subst (λ (p : Where). DeskIs m base z p r.desk) (sym e) (subst (λ (p : Where). DeskIs m base y p r.desk) e r.desk_is))
        (subst (λ (p : Where). ChipIs m base z p r.chip) (sym e') (subst (λ (p : Where). ChipIs m base y p r.chip) e' r.chip_is))
        record {
          room = ls.room;
          settled = pre';
          counters = count_id;
          numbered = ls.numbered;
          unmade = λ i above. let u = ls.unmade i above in (u.0, apart i (λ eq. let h = inside m base callers s r id d at in absurd (omega arith)) ∙ u.1, u.2);
          few = ls.few;
        }
        record {
          spent = f.spent;
          desk_turn = f.desk_turn;
          chip_turn = f.chip_turn;
          live = λ _. record {
            number = l.number;
            told = l.told;
            seen = l.seen;
            jseen = prefix_self journal;
            whole = λ _. (whole.0, refl);
            chip_whole = λ _. refl;
            mine = l.mine;
            mine_seen = l.mine_seen;
            rounds = rounds_id;
            rounds_seen = (counters, prefix_self counters, count_id, rounds_id);
            makes = l.makes;
            ended = λ p o i. ended o (l.ended p o i);
            apart = l.apart;
          };
        }
        (λ j b other g. record {
          spent = g.spent;
          desk_turn = g.desk_turn;
          chip_turn = g.chip_turn;
          live = λ alive. let o = g.live alive in record {
            number = o.number;
            told = o.told;
            seen = o.seen;
            jseen = up b.jseen o.jseen;
            whole = λ yes. absurd (other (eqb-true j id (ap (λ (p : Where). turn_of p j) (sym e) ∙ (sym g.desk_turn ∙ yes))));
            chip_whole = λ yes. absurd (other (eqb-true j id (ap (λ (p : Where). turn_of p j) (sym e') ∙ (sym g.chip_turn ∙ yes))));
            mine = o.mine;
            mine_seen = o.mine_seen;
            rounds = o.rounds ∙ sym (apart j other);
            rounds_seen = let h = o.rounds_seen in (h.0, prefix_longer h.0 y.counters (id ∷ []) h.1, h.2, h.3);
            makes = o.makes;
            ended = λ p u i. ended u (o.ended p u i);
            apart = o.apart;
          };
        }) in (
          w,
          keeps,
          tt,
          kept,
          (refl, agree m base callers _ kept id w (here m base callers s id d w at) unspent),
        )
