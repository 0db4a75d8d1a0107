-- Making a seat and taking one in keep the rule.
use Rattle.std.proofs.Common.{◌≡◌, ◌≢◌, ℕ, ◌+◌, ◌<◌, eq-eqb, ne_eqb, Bool, true, false, [], ◌∷◌, length, set, refl, sym, ap, ◌∙◌, subst, ⊎_elim, arith, length-append, length-set, if◌then◌else◌}
use Rattle.std.proofs.lemmas.Bool.{eqb-false}
use mathlib.Core.Logic.{dite}
use mathlib.Core.Option.{Option, some, some-ne-none}
use native.Mathlib.Decide.{ℕ_discrete}
use lib.ListN.{get_elem?}
use Rattle.atomic_table.specs.Table.{State, Me, Splits, Joins}
use Rattle.atomic_table.proofs.Lists.{at_set, set_else}
use Rattle.keyed.specs.Prefix.{prefix_none}
use Rattle.turn_book.specs.declared.view.View.{View}
use Rattle.turn_book.specs.declared.view.Ended.{Ended}
use Rattle.turn_book.specs.declared.view.Held.{Held}
use Rattle.turn_book.specs.Lists.{own, rounds_of}
use Rattle.turn_book.specs.Means.{Means}
use Rattle.turn_book.specs.Rule.{Where, home, out, word_of, turn_of, World, EndedOk, Fits, DeskIs, ChipIs, Kept, newcomer, nobody, marked}
use Rattle.turn_book.specs.Steps.{split_off, ended_of, took_in}
use Rattle.turn_book.proofs.Own.{at_end}
use Rattle.turn_book.proofs.Keeps.{inside}

module _ {V W G S R : Type 0} (m : Means V W G S R) where
  abbrev D : Type 0
  D = View G S R

  abbrev H : Type 0
  H = Held V W

  abbrev M : Type 0
  M = Me H D

  module _ (base : G) (callers : ℕ) where
    abbrev St : Type 0
    St = State H D

    abbrev Rule : St → Type 0
    Rule = Kept m base callers

    -- a seat that is not made yet has no turn
    no_turn : (x : World S R) (a : Where) → ((k : ℕ) → a ≡ out k → k < x.made) → turn_of a x.made ≡ false
    no_turn x home in_count = refl
    no_turn x (out k) in_count = let h = in_count k refl in ne_eqb x.made k (λ e. omega arith)

    abbrev seat_or : ℕ → Where → ℕ
    seat_or d home = d
    seat_or d (out k) = k

    desk_in : (x : World S R) (a : Where) (h : Option H) → DeskIs m base x a h → (k : ℕ) → a ≡ out k → k < x.made
    desk_in x home h is k e = absurd (let t = ap word_of e in omega arith)
    desk_in x (out j) h is k e = subst (λ (q : ℕ). q < x.made) (ap (seat_or 0) e) is.1.0

    chip_in : (x : World S R) (a : Where) (h : Option H) → ChipIs m base x a h → (k : ℕ) → a ≡ out k → k < x.made
    chip_in x home h is k e = absurd (let t = ap word_of e in omega arith)
    chip_in x (out j) h is k e = subst (λ (q : ℕ). q < x.made) (ap (seat_or 0) e) is.1.0

    desk_more : (x : World S R) (a : Where) (h : Option H) → DeskIs m base x a h → DeskIs m base (record x { made = x.made + 1 }) a h
    desk_more x home h is = is
    desk_more x (out k) h is = let b = is.1.0 in (is.0, (omega arith, is.1.1))

    chip_more : (x : World S R) (a : Where) (h : Option H) → ChipIs m base x a h → ChipIs m base (record x { made = x.made + 1 }) a h
    chip_more x home h is = is
    chip_more x (out k) h is = let b = is.1.0 in (is.0, (omega arith, is.1.1))

    pub splits_next : (id : ℕ) (d : D) → d.spent ≡ false → d.makes ≡ true → d.made < d.callers → Splits Rule id d (split_off d) (newcomer d.opening d.callers d.made false 0)
    splits_next id d unspent makes few s r at =
        let f = r.each id d at in
        let l = f.live unspent in
        let made = l.makes makes in
        let x : World S R = r.world in
        let z : World S R = record x { made = x.made + 1 } in
        let w : D = split_off d in
        let o : D = newcomer d.opening d.callers d.made false 0 in
        let ended : (q : Ended S R) → EndedOk m.caller x q → EndedOk m.caller z q = λ q k. record { spent = k.spent; seen = k.seen; jseen = k.jseen; mine = k.mine; rounds = k.rounds } in
        let old : (j : ℕ) (e : D) → get_elem? (set s.views id w) j ≡ some e → Fits m.caller z base callers r.desk_at r.chip_at j e =
        λ j e p. ⊎_elim (λ (t : (j ≡ id) × (w ≡ e)). subst (λ (q : ℕ × D). Fits m.caller z base callers r.desk_at r.chip_at q.0 q.1) (λ i. (sym t.0 i, t.1 i)) record {
          spent = f.spent;
          desk_turn = f.desk_turn;
          chip_turn = f.chip_turn;
          live = λ _. record {
            number = l.number;
            told = l.told;
            seen = l.seen;
            jseen = l.jseen;
            whole = l.whole;
            chip_whole = l.chip_whole;
            mine = l.mine;
            mine_seen = l.mine_seen;
            rounds = l.rounds;
            rounds_seen = l.rounds_seen;
            makes = λ _. (made.0, ap (λ (q : ℕ). q + 1) made.1);
            ended = λ q u i. ended u (l.ended q u i);
            apart = l.apart;
          };
        })
        (λ (t : (j ≢ id) × (get_elem? s.views j ≡ some e)). let g = r.each j e t.1 in record {
          spent = g.spent;
          desk_turn = g.desk_turn;
          chip_turn = g.chip_turn;
          live = λ alive. let b = g.live alive in record {
            number = b.number;
            told = b.told;
            seen = b.seen;
            jseen = b.jseen;
            whole = b.whole;
            chip_whole = b.chip_whole;
            mine = b.mine;
            mine_seen = b.mine_seen;
            rounds = b.rounds;
            rounds_seen = b.rounds_seen;
            makes = λ yes. absurd (t.0 ((b.makes yes).0 ∙ sym made.0));
            ended = λ q u i. ended u (b.ended q u i);
            apart = b.apart;
          };
        }) (at_set s.views id j w e p) in
        let many : length (set s.views id w) ≡ x.made = length-set s.views id w ∙ r.views in
        let u = r.lists.unmade x.made (omega arith) in
        let new : Fits m.caller z base callers r.desk_at r.chip_at x.made o = record {
          spent = sym u.2;
          desk_turn = sym (no_turn x r.desk_at (desk_in x r.desk_at r.desk r.desk_is));
          chip_turn = sym (no_turn x r.chip_at (chip_in x r.chip_at r.chip r.chip_is));
          live = λ _. record {
            number = made.1;
            told = l.told;
            seen = prefix_none x.log;
            jseen = prefix_none x.journal;
            whole = λ yes. absurd cc;
            chip_whole = λ yes. absurd cc;
            mine = sym u.0;
            mine_seen = refl;
            rounds = sym u.1;
            rounds_seen = ([], prefix_none x.counters, refl, refl);
            makes = λ yes. absurd cc;
            ended = λ k e i. absurd (some-ne-none e (sym i));
            apart = λ k l e f i. absurd (some-ne-none e (sym i));
          };
        } in
        let c = l.told.0 in
        let mm = made.1 in record {
          world = z;
          desk_at = r.desk_at;
          chip_at = r.chip_at;
          desk = r.desk;
          chip = r.chip;
          words = r.words;
          homes = r.homes;
          views = length-append (set s.views id w) (o ∷ []) ∙ ap (λ (q : ℕ). q + 1) many;
          desk_is = desk_more x r.desk_at r.desk r.desk_is;
          chip_is = chip_more x r.chip_at r.chip r.chip_is;
          lists = record {
            room = r.lists.room;
            settled = r.lists.settled;
            counters = r.lists.counters;
            numbered = r.lists.numbered;
            unmade = λ i above. r.lists.unmade i (omega arith);
            few = omega arith;
          };
          each = λ j e p. ⊎_elim (λ (t : get_elem? (set s.views id w) j ≡ some e). old j e t)
              (λ (t : (j ≡ length (set s.views id w)) × (o ≡ e)). subst (λ (q : ℕ × D). Fits m.caller z base callers r.desk_at r.chip_at q.0 q.1) (λ i. (sym (t.0 ∙ many) i, t.1 i)) new) (at_end (set s.views id w) o e j p);
        }

    marked_here : (f : ℕ → Bool) (k j : ℕ) → j ≡ k → marked f k j ≡ true
    marked_here f k j e = ap (λ (b : Bool). if b then true else f j) (eq-eqb j k e)

    marked_else : (f : ℕ → Bool) (k j : ℕ) → j ≢ k → marked f k j ≡ f j
    marked_else f k j ne = ap (λ (b : Bool). if b then true else f j) (ne_eqb j k ne)

    desk_marked : (x : World S R) (a : Where) (h : Option H) (k : ℕ) → turn_of a k ≡ false → DeskIs m base x a h → DeskIs m base (record x { spent = marked x.spent k }) a h
    desk_marked x home h k idle is = is
    desk_marked x (out j) h k idle is = (is.0, (is.1.0, marked_else x.spent k j (λ e. eqb-false k j idle (sym e)) ∙ is.1.1))

    chip_marked : (x : World S R) (a : Where) (h : Option H) (k : ℕ) → turn_of a k ≡ false → ChipIs m base x a h → ChipIs m base (record x { spent = marked x.spent k }) a h
    chip_marked x home h k idle is = is
    chip_marked x (out j) h k idle is = (is.0, (is.1.0, marked_else x.spent k j (λ e. eqb-false k j idle (sym e)) ∙ is.1.1))

    pub joins_in : (id : ℕ) (d : D) (other : ℕ) (e : D) → d.spent ≡ false → e.spent ≡ false → e.desk_turn ≡ false → e.chip_turn ≡ false → Joins Rule id d other e (took_in d e) nobody
    joins_in id d other e unspent live_e idle idle_chip s r at apart there =
        let w : D = took_in d e in
        let at_e : get_elem? s.views other ≡ some e = sym (set_else s.views id other w apart) ∙ there in
        let f = r.each id d at in
        let l = f.live unspent in
        let fe = r.each other e at_e in
        let le = fe.live live_e in
        let x : World S R = r.world in
        let z : World S R = record x { spent = marked x.spent other } in
        let no_turn : turn_of r.desk_at other ≡ false = sym fe.desk_turn ∙ idle in
        let no_chip : turn_of r.chip_at other ≡ false = sym fe.chip_turn ∙ idle_chip in
        let ended : (q : Ended S R) → EndedOk m.caller x q → EndedOk m.caller z q = λ q k. record {
          spent = dite (ℕ_discrete q.number other) (λ eq. marked_here x.spent other q.number eq) (λ ne. marked_else x.spent other q.number ne ∙ k.spent);
          seen = k.seen;
          jseen = k.jseen;
          mine = k.mine;
          rounds = k.rounds;
        } in
        let new : EndedOk m.caller z (ended_of e) = record {
          spent = marked_here x.spent other e.number le.number;
          seen = le.seen;
          jseen = le.jseen;
          mine = le.mine ∙ ap (λ i. own m.caller i x.log) (sym le.number);
          rounds = le.rounds ∙ ap (λ i. rounds_of i 0 x.counters) (sym le.number);
        } in
        let old_is_other : (q : Ended S R) → EndedOk m.caller x q → q.number ≡ e.number → ⊥ = λ q k same.
        (let t : true ≡ false = sym k.spent ∙ (ap x.spent (same ∙ le.number) ∙ (sym fe.spent ∙ live_e)) in cc t) in
        let mine : Fits m.caller z base callers r.desk_at r.chip_at id w = record {
          spent = f.spent ∙ sym (marked_else x.spent other id (λ q. apart (sym q)));
          desk_turn = f.desk_turn;
          chip_turn = f.chip_turn;
          live = λ _. record {
            number = l.number;
            told = l.told;
            seen = l.seen;
            jseen = l.jseen;
            whole = l.whole;
            chip_whole = l.chip_whole;
            mine = l.mine;
            mine_seen = l.mine_seen;
            rounds = l.rounds;
            rounds_seen = l.rounds_seen;
            makes = l.makes;
            ended = λ k u i. ⊎_elim (λ (t : get_elem? d.ended k ≡ some u). ended u (l.ended k u t)) (λ (t : (k ≡ length d.ended) × (ended_of e ≡ u)). subst (EndedOk m.caller z) t.1 new) (at_end d.ended (ended_of e) u k i);
            apart = λ k q u v at_k at_q same.
                ⊎_elim
                (λ (t : get_elem? d.ended k ≡ some u). ⊎_elim (λ (n : get_elem? d.ended q ≡ some v). l.apart k q u v t n same)
                (λ (n : (q ≡ length d.ended) × (ended_of e ≡ v)). absurd (old_is_other u (l.ended k u t) (same ∙ sym (ap (λ (y : Ended S R). y.number) n.1)))) (at_end d.ended (ended_of e) v q at_q))
                (λ (t : (k ≡ length d.ended) × (ended_of e ≡ u)). ⊎_elim (λ (n : get_elem? d.ended q ≡ some v). absurd (old_is_other v (l.ended q v n) (sym same ∙ sym (ap (λ (y : Ended S R). y.number) t.1))))
                (λ (n : (q ≡ length d.ended) × (ended_of e ≡ v)). t.0 ∙ sym n.0) (at_end d.ended (ended_of e) v q at_q))
                (at_end d.ended (ended_of e) u k at_k);
          };
        } in
        let gone : Fits m.caller z base callers r.desk_at r.chip_at other nobody = record {
          spent = sym (marked_here x.spent other other refl);
          desk_turn = sym no_turn;
          chip_turn = sym no_chip;
          live = λ alive. absurd cc;
        } in
        let rest : (j : ℕ) (b : D) → j ≢ other → get_elem? s.views j ≡ some b → Fits m.caller z base callers r.desk_at r.chip_at j b = λ j b ne p. let g = r.each j b p in record {
          spent = g.spent ∙ sym (marked_else x.spent other j ne);
          desk_turn = g.desk_turn;
          chip_turn = g.chip_turn;
          live = λ alive. let o = g.live alive in record {
            number = o.number;
            told = o.told;
            seen = o.seen;
            jseen = o.jseen;
            whole = o.whole;
            chip_whole = o.chip_whole;
            mine = o.mine;
            mine_seen = o.mine_seen;
            rounds = o.rounds;
            rounds_seen = o.rounds_seen;
            makes = o.makes;
            ended = λ k u i. ended u (o.ended k u i);
            apart = o.apart;
          };
        } in record {
          world = z;
          desk_at = r.desk_at;
          chip_at = r.chip_at;
          desk = r.desk;
          chip = r.chip;
          words = r.words;
          homes = r.homes;
          views = length-set (set s.views id w) other nobody ∙ (length-set s.views id w ∙ r.views);
          desk_is = desk_marked x r.desk_at r.desk other no_turn r.desk_is;
          chip_is = chip_marked x r.chip_at r.chip other no_chip r.chip_is;
          lists = record {
            room = r.lists.room;
            settled = r.lists.settled;
            counters = r.lists.counters;
            numbered = r.lists.numbered;
            unmade = λ i above. let u = r.lists.unmade i above in (u.0, u.1, marked_else x.spent other i (λ eq. let h = inside m base callers s r other e at_e in absurd (omega arith)) ∙ u.2);
            few = r.lists.few;
          };
          each = λ j b p. ⊎_elim (λ (t : (j ≡ other) × (nobody ≡ b)). subst (λ (q : ℕ × D). Fits m.caller z base callers r.desk_at r.chip_at q.0 q.1) (λ i. (sym t.0 i, t.1 i)) gone)
              (λ (t : (j ≢ other) × (get_elem? (set s.views id w) j ≡ some b)). ⊎_elim (λ (u : (j ≡ id) × (w ≡ b)). subst (λ (q : ℕ × D). Fits m.caller z base callers r.desk_at r.chip_at q.0 q.1) (λ i. (sym u.0 i, u.1 i)) mine)
              (λ (u : (j ≢ id) × (get_elem? s.views j ≡ some b)). rest j b t.0 u.1) (at_set s.views id j w b t.1)) (at_set (set s.views id w) other j nobody b p);
        }
