-- What the last seat knows, said of the passes that were handed in.
use Rattle.std.proofs.Common.{◌≡◌, ◌⊎◌, ℕ, zero, suc, ◌+◌, ◌<◌, ◌≤◌, eqb, eqb-true, eq-eqb, Bool, true, false, List, [], ◌∷◌, ◌++◌, length, map, get_or, slice_get, Some, Contains, All, EachIndex, refl, sym, ap, ◌∙◌, subst, inl, inr, ⊎_elim, arith, if◌then◌else◌}
use Rattle.std.proofs.lemmas.Bool.{cases_lt}
use Rattle.std.proofs.lemmas.List.{length-map}
use mathlib.Core.Option.{some, some-injective, some-ne-none}
use Rattle.keyed.specs.Prefix.{IsPrefix}
use lib.ListN.{get_elem?}
use Rattle.atomic_table.proofs.Lists.{at_map}
use Rattle.turn_book.specs.declared.view.View.{View}
use Rattle.turn_book.specs.declared.view.Ended.{Ended}
use Rattle.turn_book.specs.Lists.{rounds_of}
use Rattle.turn_book.specs.Passes.{Book, Pass, new_pass, new_passes}
use Rattle.turn_book.specs.Closing.{HasEachCaller, IsCountedOnce}
use Rattle.turn_book.specs.Means.{Means}
use Rattle.turn_book.specs.Steps.{IsPart, Ends, HasAll, ended_of}
use Rattle.turn_book.proofs.Own.{at_below, at_end, some_at}

-- what is kept of a pass when its caller ends
abbrev pub end_of : {G S R : Type 0} → Pass G S R → Ended S R
end_of p = record { number = p.number; seen = p.seen; mine = p.mine; jseen = p.jseen; rounds = p.rounds }

module _ {A : Type 0} where
  pub at_or : (xs : List A) (k : ℕ) (d : A) → k < length xs → get_elem? xs k ≡ some (get_or xs k d)
  at_or [] k d lt = absurd (omega arith)
  at_or (x ∷ xs) zero d lt = refl
  at_or (x ∷ xs) (suc k) d lt = at_or xs k d (omega arith)

  pub or_at : (xs : List A) (k : ℕ) (d x : A) → get_elem? xs k ≡ some x → get_or xs k d ≡ x
  or_at [] k d x at = absurd (some-ne-none x (sym at))
  or_at (y ∷ ys) zero d x at = some-injective y x at
  or_at (y ∷ ys) (suc k) d x at = or_at ys k d x at

  pub get_at : (xs : List A) (k : ℕ) (x : A) → slice_get xs k ≡ Some x → get_elem? xs k ≡ some x
  get_at [] k x e = absurd (cc e)
  get_at (y ∷ ys) zero x e = let same : y ≡ x = cc e in ap some same
  get_at (y ∷ ys) (suc k) x e = get_at ys k x e

  pub at_get : (xs : List A) (k : ℕ) (x : A) → get_elem? xs k ≡ some x → slice_get xs k ≡ Some x
  at_get [] k x at = absurd (some-ne-none x (sym at))
  at_get (y ∷ ys) zero x at = ap Some (some-injective y x at)
  at_get (y ∷ ys) (suc k) x at = at_get ys k x at

  pub all_at : (P : A → Type 0) (xs : List A) → ((k : ℕ) (x : A) → get_elem? xs k ≡ some x → P x) → All P xs
  all_at P xs h k d lt = h k (get_or xs k d) (at_or xs k d lt)

  pub at_all : (P : A → Type 0) (xs : List A) (k : ℕ) (x : A) → All P xs → get_elem? xs k ≡ some x → P x
  at_all P xs k x h at = subst P (or_at xs k x x at) (h k x (at_below xs k x at))

  -- the last of a beginning, in the whole
  pub prefix_last : (ys : List A) (x : A) (xs : List A) → IsPrefix (ys ++ x ∷ []) xs → get_elem? xs (length ys) ≡ some x
  prefix_last [] x [] p = absurd (cc (p.1))
  prefix_last [] x (z ∷ zs) p = let e : z ≡ x = cc (p.1) in ap some e
  prefix_last (y ∷ ys) x [] p = absurd (cc (p.1))
  prefix_last (y ∷ ys) x (z ∷ zs) p = prefix_last ys x zs (p.0, cc (p.1))

-- x stands in the list
abbrev Has : {X : Type 0} → List X → X → Type 0
Has [] x = ⊥
Has (y ∷ ys) x = (y ≡ x) ⊎ Has ys x

module _ {X : Type 0} where
  has_contains : (xs : List X) (x : X) → Has xs x → Contains xs x
  has_contains [] x h = absurd h
  has_contains (y ∷ ys) x h = ⊎_elim (λ (e : y ≡ x). (0, omega arith, e)) (λ (t : Has ys x). let r = has_contains ys x t in let lt = r.1 in (suc r.0, omega arith, r.2)) h

  has_at : (xs : List X) (x : X) (k : ℕ) → k < length xs → get_or xs k x ≡ x → Has xs x
  has_at [] x k lt e = absurd (omega arith)
  has_at (y ∷ ys) x zero lt e = inl e
  has_at (y ∷ ys) x (suc k) lt e = inr (has_at ys x k (omega arith) e)

-- the round k, counted from n, is among the rounds of its counter
has_cons : (n x : ℕ) (b : Bool) (ns : List ℕ) → Has ns x → Has (if b then n ∷ ns else ns) x
has_cons n x true ns h = inr h
has_cons n x false ns h = h

its_counter : (i n k : ℕ) (gs : List ℕ) → get_elem? gs k ≡ some i → Has (rounds_of i n gs) (n + k)
its_counter i n k [] at = absurd (some-ne-none i (sym at))
its_counter i n zero (g ∷ gs) at = let here : Has (n ∷ rounds_of i (n + 1) gs) (n + 0) = inl (omega arith) in
    subst (λ (b : Bool). Has (if b then n ∷ rounds_of i (n + 1) gs else rounds_of i (n + 1) gs) (n + 0)) (sym (eq-eqb g i (some-injective g i at))) here
its_counter i n (suc k) (g ∷ gs) at = let next : n + 1 + k ≡ n + suc k = omega arith in
    has_cons n (n + suc k) (eqb g i) (rounds_of i (n + 1) gs) (subst (Has (rounds_of i (n + 1) gs)) next (its_counter i (n + 1) k gs at))

-- and it is among those of no other
later_counter : (i n x g : ℕ) (gs : List ℕ) → (k : ℕ) × (n + 1 + k ≡ x) × (get_elem? gs k ≡ some i) → (k : ℕ) × (n + k ≡ x) × (get_elem? (g ∷ gs) k ≡ some i)
later_counter i n x g gs r = let e = r.1 in (suc r.0, omega arith, r.2)

this_counter : (i n x g : ℕ) (gs : List ℕ) (b : Bool) → eqb g i ≡ b → (Has (rounds_of i (n + 1) gs) x → (k : ℕ) × (n + k ≡ x) × (get_elem? (g ∷ gs) k ≡ some i))
    → Has (if b then n ∷ rounds_of i (n + 1) gs else rounds_of i (n + 1) gs) x → (k : ℕ) × (n + k ≡ x) × (get_elem? (g ∷ gs) k ≡ some i)
this_counter i n x g gs true e later t = ⊎_elim (λ (q : n ≡ x). (0, omega arith, ap some (eqb-true g i e))) later t
this_counter i n x g gs false e later t = later t

only_counter : (i n x : ℕ) (gs : List ℕ) → Has (rounds_of i n gs) x → (k : ℕ) × (n + k ≡ x) × (get_elem? gs k ≡ some i)
only_counter i n x [] h = absurd h
only_counter i n x (g ∷ gs) h = this_counter i n x g gs (eqb g i) refl (λ t. later_counter i n x g gs (only_counter i (n + 1) x gs t)) h

-- new passes, one more
pub new_passes_more : {G S R : Type 0} (b : Book G) (n k : ℕ) → new_passes {S = S} {R = R} b n (suc k) ≡ new_passes b n k ++ new_pass b (n + k) ∷ []
new_passes_more b n zero = let e : n ≡ n + 0 = omega arith in ap (λ (i : ℕ). new_pass b i ∷ []) e
new_passes_more b n (suc k) = let e : n + 1 + k ≡ n + suc k = omega arith in
    ap (λ l. new_pass b n ∷ l) (new_passes_more b (n + 1) k ∙ ap (λ (i : ℕ). new_passes b (n + 1) k ++ new_pass b i ∷ []) e)

module _ {V W G S R : Type 0} (m : Means V W G S R) (d : View G S R) (v : V) (w : W) (end : Ends m d v w) (passes rest : List (Pass G S R)) (last : Pass G S R)
    (whole : passes ≡ rest ++ last ∷ []) (last_is : end_of last ≡ ended_of d)
    (there : (k : ℕ) (p : Pass G S R) → get_elem? rest k ≡ some p → (i : ℕ) × (i + k + 1 ≡ length rest) × (get_elem? d.ended i ≡ some (end_of p))) where
  abbrev Part : Pass G S R → Type 0
  Part p = IsPart m (m.sent v) (m.done v) end.counters (end_of p)

  -- each pass is the last one, or stands before it
  cases : (k : ℕ) (p : Pass G S R) → get_elem? passes k ≡ some p → (get_elem? rest k ≡ some p) ⊎ ((k ≡ length rest) × (last ≡ p))
  cases k p at = at_end rest last p k (ap (λ l. get_elem? l k) (sym whole) ∙ at)

  pub part_at : (k : ℕ) (p : Pass G S R) → get_elem? passes k ≡ some p → Part p
  part_at k p at = ⊎_elim (λ (t : get_elem? rest k ≡ some p). let h = there k p t in end.others h.0 (end_of p) h.2)
      (λ (t : (k ≡ length rest) × (last ≡ p)). subst Part t.1 (subst (IsPart m (m.sent v) (m.done v) end.counters) (sym last_is) end.last)) (cases k p at)

  last_number : (q : Pass G S R) → last ≡ q → q.number ≡ d.number
  last_number q e = ap (λ (p : Pass G S R). p.number) (sym e) ∙ ap (λ (z : Ended S R). z.number) last_is

  pub apart_at : (k j : ℕ) (p q : Pass G S R) → get_elem? passes k ≡ some p → get_elem? passes j ≡ some q → p.number ≡ q.number → k ≡ j
  apart_at k j p q at_k at_j same = ⊎_elim
      (λ (t : get_elem? rest k ≡ some p). ⊎_elim
      (λ (u : get_elem? rest j ≡ some q). let h = there k p t in let o = there j q u in let e = end.apart h.0 o.0 (end_of p) (end_of q) h.2 o.2 same in let x = h.1 in let y = o.1 in omega arith)
      (λ (u : (j ≡ length rest) × (last ≡ q)). let h = there k p t in absurd (end.last_apart h.0 (end_of p) h.2 (same ∙ last_number q u.1))) (cases j q at_j))
      (λ (t : (k ≡ length rest) × (last ≡ p)). ⊎_elim
      (λ (u : get_elem? rest j ≡ some q). let o = there j q u in absurd (end.last_apart o.0 (end_of q) o.2 (sym same ∙ last_number p t.1)))
      (λ (u : (j ≡ length rest) × (last ≡ q)). t.0 ∙ sym u.0) (cases j q at_j)) (cases k p at_k)

  -- each round is among those of exactly one pass
  pub once : (b : Book G) → d.callers ≡ b.callers → HasEachCaller b passes → EachIndex (m.done v) (IsCountedOnce passes)
  once b callers all n lt =
      let counted = end.counted in
      let at = some_at end.counters n (omega arith) in
      let i : ℕ = at.0 in
      let zero_on : 0 + n ≡ n = omega arith in
      let has : Has (rounds_of i 0 end.counters) n = subst (Has (rounds_of i 0 end.counters)) zero_on (its_counter i 0 n end.counters at.1) in
      let few : i < b.callers = below b callers i n has in
      let c = all i few in
      let p = some_at passes c.0 (let lt' = c.1 in omega (arith, length-map passes (λ (q : Pass G S R). q.number))) in
      let number : p.0.number ≡ i = sym (or_at (map (λ (q : Pass G S R). q.number) passes) c.0 i p.0.number (at_map (λ (q : Pass G S R). q.number) passes c.0 p.0 p.1)) ∙ c.2 in
      let rounds : p.0.rounds ≡ rounds_of i 0 end.counters = (part_at c.0 p.0 p.1).rounds ∙ ap (λ (j : ℕ). rounds_of j 0 end.counters) number in (
        c.0,
        p.0,
        at_get passes c.0 p.0 p.1,
        has_contains p.0.rounds n (subst (λ (l : List ℕ). Has l n) (sym rounds) has),
        λ j q at_j q_has.
            let at_q = get_at passes j q at_j in
            let only = only_counter q.number 0 n end.counters (subst (λ (l : List ℕ). Has l n) ((part_at j q at_q).rounds) (has_at q.rounds n q_has.0 q_has.1 q_has.2)) in
            let same_place : only.0 ≡ n = (let e = only.1 in omega arith) in
            let same : q.number ≡ i = some-injective q.number i (sym only.2 ∙ (ap (get_elem? end.counters) same_place ∙ at.1)) in
            apart_at j c.0 q p.0 at_q p.1 (same ∙ sym number),
      )
    where
      below : (b : Book G) → d.callers ≡ b.callers → (i n : ℕ) → Has (rounds_of i 0 end.counters) n → i < b.callers
      below b callers i n has = ⊎_elim (λ (lt : i < b.callers). lt) (λ (le : b.callers ≤ i). absurd (subst (λ (l : List ℕ). Has l n) (end.no_others i (omega arith)).1 has)) (cases_lt i b.callers)

module _ {G S R : Type 0} (d : View G S R) (passes rest : List (Pass G S R)) (last : Pass G S R)
    (whole : passes ≡ rest ++ last ∷ []) (last_is : end_of last ≡ ended_of d)
    (there : (k : ℕ) (p : Pass G S R) → get_elem? rest k ≡ some p → (i : ℕ) × (i + k + 1 ≡ length rest) × (get_elem? d.ended i ≡ some (end_of p))) where
  -- the last seat has its own number and those that it took in
  pub has_all : (b : Book G) → d.callers ≡ b.callers → HasEachCaller b passes → HasAll d
  has_all b callers all i lt =
      let c = all i (omega arith) in
      let p = some_at passes c.0 (let lt' = c.1 in omega (arith, length-map passes (λ (q : Pass G S R). q.number))) in
      let number : p.0.number ≡ i = sym (or_at (map (λ (q : Pass G S R). q.number) passes) c.0 i p.0.number (at_map (λ (q : Pass G S R). q.number) passes c.0 p.0 p.1)) ∙ c.2 in
      ⊎_elim (λ (t : get_elem? rest c.0 ≡ some p.0). let h = there c.0 p.0 t in inr (h.0, end_of p.0, h.2, number))
      (λ (t : (c.0 ≡ length rest) × (last ≡ p.0)). inl (sym (ap (λ (z : Ended S R). z.number) last_is) ∙ (ap (λ (q : Pass G S R). q.number) t.1 ∙ number)))
      (at_end rest last p.0 c.0 (ap (λ l. get_elem? l c.0) (sym whole) ∙ p.1))
