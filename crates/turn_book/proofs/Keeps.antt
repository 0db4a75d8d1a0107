-- The rule at the start, and what the steps share.
use Rattle.std.proofs.Common.{◌≡◌, ◌≢◌, ℕ, zero, suc, ◌<◌, ◌≤◌, eqb-true, Bool, true, false, List, [], ◌∷◌, length, set, refl, sym, ap, ◌∙◌, subst, ⊎_elim, arith, length-set, Some}
use Rattle.std.specs.List.{range_with_len}
use mathlib.Core.Option.{Option, some, some-injective, some-ne-none}
use lib.ListN.{get_elem?}
use Rattle.atomic_table.specs.Table.{State, Me, opening}
use Rattle.atomic_table.proofs.Lists.{at_set, set_here}
use Rattle.keyed.specs.Prefix.{prefix_self}
use Rattle.turn_book.specs.declared.view.View.{View}
use Rattle.turn_book.specs.declared.view.Held.{Held}
use Rattle.turn_book.specs.declared.view.Held.TheVariants.{Desk, Chip}
use Rattle.turn_book.specs.Lists.{own, AreNumbered, rounds_of, strip, AscendWithin}
use Rattle.turn_book.specs.Means.{Means}
use Rattle.turn_book.specs.Rule.{Where, home, out, word_of, turn_of, World, Fits, DeskIs, ChipIs, Lists, Kept, newcomer}
use Rattle.turn_book.specs.Steps.{Agree}
use Rattle.turn_book.proofs.Own.{at_below, own_prefix, rounds_prefix, own_sole, rounds_sole, rounds_ascend}

module _ {V W G S R : Type 0} (m : Means V W G S R) where
  abbrev D : Type 0
  D = View G S R

  abbrev H : Type 0
  H = Held V W

  abbrev M : Type 0
  M = Me H D

  pub starts : (v : V) (w : W) (callers : ℕ) → 0 < callers → m.sent v ≡ [] → m.done v ≡ [] → m.chip_done w ≡ [] → m.chip_opening w ≡ m.opening v
      → Kept m (m.opening v) callers (opening (0 ∷ 0 ∷ 1 ∷ 1 ∷ []) (Desk v ∷ Chip w ∷ []) (newcomer (Some (m.opening v)) callers 0 true 1))
  starts v w callers some_caller none_sent none_done chip_none one_ground = record {
    world = world;
    desk_at = home;
    chip_at = home;
    desk = some (Desk v);
    chip = some (Chip w);
    words = refl;
    homes = refl;
    views = refl;
    desk_is = (v, refl, none_sent, none_done, refl);
    chip_is = (w, refl, chip_none, one_ground);
    lists = record {
      room = omega arith;
      settled = prefix_self [];
      counters = refl;
      numbered = λ i. refl;
      unmade = λ i _. (refl, refl, refl);
      few = omega arith;
    };
    each = one;
  }
    where
      world : World S R
      world = record { log = []; journal = []; counters = []; maker = 0; made = 1; spent = λ _. false }

      first : D
      first = newcomer (Some (m.opening v)) callers 0 true 1

      first_fits : Fits m.caller world (m.opening v) callers home home 0 first
      first_fits = record {
        spent = refl;
        desk_turn = refl;
        chip_turn = refl;
        live = λ _. record {
          number = refl;
          told = (refl, refl);
          seen = prefix_self [];
          jseen = prefix_self [];
          whole = λ _. (refl, refl);
          chip_whole = λ _. refl;
          mine = refl;
          mine_seen = refl;
          rounds = refl;
          rounds_seen = ([], prefix_self [], refl, refl);
          makes = λ _. (refl, refl);
          ended = λ k e at. absurd (some-ne-none e (sym at));
          apart = λ k l e f at. absurd (some-ne-none e (sym at));
        };
      }

      one : (j : ℕ) (d : D) → get_elem? (first ∷ []) j ≡ some d → Fits m.caller world (m.opening v) callers home home j d
      one zero d e = subst (Fits m.caller world (m.opening v) callers home home 0) (some-injective first d e) first_fits
      one (suc j) d e = absurd (some-ne-none d (sym e))

  module _ (base : G) (callers : ℕ) where
    abbrev St : Type 0
    St = State H D

    abbrev Rule : St → Type 0
    Rule = Kept m base callers

    -- the seat id has the view w, and the rest of the table is as it says
    pub moves : (s : St) (r : Rule s) (id : ℕ) (w : D) (x : World S R) (a b : Where) (h g : Option H) (ws : List ℕ) (hs : List (Option H))
        → ws ≡ length x.log ∷ length (strip m.subs x.journal) ∷ word_of a ∷ word_of b ∷ [] → hs ≡ h ∷ g ∷ [] → x.made ≡ r.world.made
        → DeskIs m base x a h → ChipIs m base x b g → Lists m base callers x
        → Fits m.caller x base callers a b id w
        → ((j : ℕ) (e : D) → j ≢ id → Fits m.caller r.world base callers r.desk_at r.chip_at j e → Fits m.caller x base callers a b j e)
        → Rule record { words = ws; homes = hs; views = set s.views id w }
    moves s r id w x a b h g ws hs words homes count desk chip lists here others = record {
      world = x;
      desk_at = a;
      chip_at = b;
      desk = h;
      chip = g;
      words = words;
      homes = homes;
      views = length-set s.views id w ∙ (r.views ∙ sym count);
      desk_is = desk;
      chip_is = chip;
      lists = lists;
      each = λ j e p. ⊎_elim (λ (t : (j ≡ id) × (w ≡ e)). subst (λ (z : ℕ × D). Fits m.caller x base callers a b z.0 z.1) (λ i. (sym t.0 i, t.1 i)) here)
          (λ (t : (j ≢ id) × (get_elem? s.views j ≡ some e)). others j e t.0 (r.each j e t.1)) (at_set s.views id j w e p);
    }

    pub fits_where : (x : World S R) (a b a' b' : Where) (j : ℕ) (d : D) → Fits m.caller x base callers a b j d → turn_of a j ≡ turn_of a' j → turn_of b j ≡ turn_of b' j → Fits m.caller x base callers a' b' j d
    fits_where x a b a' b' j d f p q = record { spent = f.spent; desk_turn = f.desk_turn ∙ p; chip_turn = f.chip_turn ∙ q; live = f.live }

    pub chip_same : (y z : World S R) (b : Where) (h : Option H) → z.journal ≡ y.journal → z.made ≡ y.made → z.spent ≡ y.spent → ChipIs m base y b h → ChipIs m base z b h
    chip_same y z home h j c p is = (is.0, is.1, is.2 ∙ sym j, is.3)
    chip_same y z (out k) h j c p is = (is.0, (subst (λ (q : ℕ). k < q) (sym c) is.1.0, ap (λ (q : ℕ → Bool). q k) p ∙ is.1.1))

    -- a value is out with the seat whose view has its turn
    pub has_turn : (a : Where) (id : ℕ) → true ≡ turn_of a id → a ≡ out id
    has_turn home id e = absurd cc
    has_turn (out k) id e = ap out (sym (eqb-true id k (sym e)))

    pub inside : (s : St) (r : Rule s) (id : ℕ) (d : D) → get_elem? s.views id ≡ some d → id < r.world.made
    inside s r id d at = let h = at_below s.views id d at in let c = r.views in omega arith

    -- the lists of a view that isn't spent agree
    pub agree : (s : St) (r : Rule s) (id : ℕ) (d : D) → get_elem? s.views id ≡ some d → d.spent ≡ false → Agree m.caller m.sequence d
    agree s r id d at unspent =
        let l = (r.each id d at).live unspent in
        let seen = l.rounds_seen in
        let rounds : d.rounds ≡ rounds_of id 0 seen.0 = seen.3 in
        let one_made : callers ≡ 1 → (id ≡ 0) × (r.world.made ≤ 1) = λ one. (let h = inside s r id d at in let few = r.lists.few in (omega arith, omega arith)) in
        record {
          of_seen = l.mine_seen ∙ ap (λ i. own m.caller i d.seen) (sym l.number);
          numbered = subst (AreNumbered m.sequence) (sym l.mine) (r.lists.numbered id);
          ascend = subst (AscendWithin 0 (length d.jseen)) (sym rounds) (rounds_ascend id 0 (length d.jseen) seen.0 (omega (arith, seen.2)));
          alone = λ one.
              let lone = one_made (sym l.told.0 ∙ one) in
              let few = lone.1 in (
                sym (own_sole m.caller d.seen (λ i pos. own_prefix m.caller i d.seen r.world.log l.seen (r.lists.unmade i (omega arith)).0))
                    ∙ (ap (λ i. own m.caller i d.seen) (sym lone.0) ∙ sym l.mine_seen),
                rounds ∙ (ap (λ i. rounds_of i 0 seen.0) lone.0
                    ∙ (rounds_sole 0 seen.0 (λ i pos. rounds_prefix i seen.0 r.world.counters seen.1 (r.lists.unmade i (omega arith)).1)
                    ∙ ap (range_with_len 0) seen.2)),
              );
        }

    -- the view that a seat has after its step
    pub here : (s : St) (id : ℕ) (d w : D) → get_elem? s.views id ≡ some d → get_elem? (set s.views id w) id ≡ some w
    here s id d w at = set_here s.views id w (at_below s.views id d at)
