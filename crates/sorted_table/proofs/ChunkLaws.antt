-- A key among the parts of a table: what stands before its part is below it, and what stands behind isn't.
use Rattle.std.proofs.Common.{◌≡◌, ◌≤◌, ◌<◌, ◌+◌, ◌-◌, ℕ, zero, suc, List, [], ◌∷◌, ◌++◌, None, drop, take, drop-cons, add-one, get_or, length, map, set, append_assoc, refl, sym, ap, ◌∙◌, subst, arith}
use Rattle.std.proofs.lemmas.List.{append-nil, drop_more, drop_all, drop-map, get_or-map, length-map, map-append, map-set, nil_from_length, take-append-drop, take-map}
use Rattle.std.proofs.lemmas.List.Elements.{All-head}
use Rattle.std.specs.List.{insert, remove, slice_get}
use Rattle.std.specs.Cmp.{IsTotalOrder}
use Rattle.std.specs.Ordering.{ordering_reverse}
use Rattle.std.specs.declared.cmp.Ordering.{Ordering}
use Rattle.std.specs.declared.cmp.Ordering.TheVariants.{Less, Greater}
use Rattle.std.proofs.lemmas.Cmp.{alike_right}
use Rattle.keyed.specs.Keyed.{at, put, without, IsBelow, Ascends}
use Rattle.keyed.specs.KeyedLaws.{by_order}
use Rattle.sorted_table.specs.Chunks.{AreBelow, AreEmpty, AreFilled, joined, parts}
use Rattle.sorted_table.specs.declared.chunk.Chunk.{Chunk}

-- the item at a place of two lists, one behind the other
nth-front : {A : Type 0} (p rest : List A) (n : ℕ) → n < length p → slice_get (p ++ rest) n ≡ slice_get p n
nth-front [] rest n lt = absurd (omega (arith, lt))
nth-front (x ∷ xs) rest zero lt = refl
nth-front (x ∷ xs) rest (suc n) lt = nth-front xs rest n (omega (arith, lt))

nth-behind : {A : Type 0} (p rest : List A) (n : ℕ) → length p ≤ n → slice_get (p ++ rest) n ≡ slice_get rest (n - length p)
nth-behind [] rest n le = let same : n ≡ n - 0 = omega arith in ap (slice_get rest) same
nth-behind (x ∷ xs) rest zero le = absurd (omega (arith, le))
nth-behind (x ∷ xs) rest (suc n) le = let same : n - length xs ≡ suc n - length (x ∷ xs) = omega arith in nth-behind xs rest n (omega (arith, le)) ∙ ap (slice_get rest) same

-- each part but the first has rows
has_rows_next : {A : Type 0} (ps : List (List A)) (n : ℕ) (d : List A) → AreFilled ps → suc n < length ps → 0 < length (get_or ps (suc n) d)
has_rows_next [] n d filled lt = absurd (omega (arith, lt))
has_rows_next (p ∷ []) n d filled lt = absurd (omega (arith, lt))
has_rows_next (p ∷ q ∷ qs) zero d filled lt = filled.0.second
has_rows_next (p ∷ q ∷ qs) (suc n) d filled lt = has_rows_next (q ∷ qs) n d filled.1 (omega (arith, lt))

pub has_rows : {A : Type 0} (ps : List (List A)) (n : ℕ) (d : List A) → AreFilled ps → 0 < n → n < length ps → 0 < length (get_or ps n d)
has_rows ps zero d filled some lt = absurd (omega (arith, some))
has_rows ps (suc n) d filled some lt = has_rows_next ps n d filled lt

-- the rows of a chunk that was read
pub rows_at : {K V : Type 0} (chunks : List (Chunk K V)) (n : ℕ) (c : Chunk K V) → n < length chunks → c ≡ get_or chunks n c → c.rows.items ≡ get_or (parts chunks) n []
rows_at {K = K} {V = V} chunks n c lt is = ap (λ (x : Chunk K V). x.rows.items) is ∙ sym (get_or-map (λ (x : Chunk K V). x.rows.items) chunks n c [] lt)

pub count_parts : {K V : Type 0} (chunks : List (Chunk K V)) → length (parts chunks) ≡ length chunks
count_parts {K = K} {V = V} chunks = length-map chunks (λ (x : Chunk K V). x.rows.items)

pub take_parts : {K V : Type 0} (chunks : List (Chunk K V)) (n : ℕ) → parts (take n chunks) ≡ take n (parts chunks)
take_parts {K = K} {V = V} chunks n = sym (take-map (λ (x : Chunk K V). x.rows.items) n chunks)

-- one chunk, which has no rows
pub one_empty : {K V : Type 0} (chunks : List (Chunk K V)) → length chunks ≡ 1 → AreEmpty chunks → parts chunks ≡ [] ∷ []
one_empty [] one empty = absurd (omega (arith, one))
one_empty (c ∷ []) one empty = ap (λ l. l ∷ []) (nil_from_length c.rows.items (All-head (λ x. length x.rows.items ≡ 0) c [] empty))
one_empty (c ∷ d ∷ ds) one empty = absurd (omega (arith, one))

-- a chunk put in the place of another, and chunks with one more and one less
pub set_parts : {K V : Type 0} (chunks : List (Chunk K V)) (n : ℕ) (c : Chunk K V) → parts (set chunks n c) ≡ set (parts chunks) n c.rows.items
set_parts {K = K} {V = V} chunks n c = map-set (λ (x : Chunk K V). x.rows.items) chunks n c

pub insert_parts : {K V : Type 0} (chunks : List (Chunk K V)) (n : ℕ) (c : Chunk K V) → parts (insert chunks n c) ≡ insert (parts chunks) n c.rows.items
insert_parts {K = K} {V = V} chunks n c =
    let f : Chunk K V → List (K × V) = λ x. x.rows.items in
    map-append f (take n chunks) (c ∷ drop n chunks) ∙ ap (λ l. l ++ f c ∷ map f (drop n chunks)) (sym (take-map f n chunks)) ∙ ap (λ l. take n (map f chunks) ++ f c ∷ l) (sym (drop-map f n chunks))

pub remove_parts : {K V : Type 0} (chunks : List (Chunk K V)) (n : ℕ) → parts (remove chunks n) ≡ remove (parts chunks) n
remove_parts {K = K} {V = V} chunks n =
    let f : Chunk K V → List (K × V) = λ x. x.rows.items in
    map-append f (take n chunks) (drop (suc n) chunks) ∙ ap (λ l. l ++ map f (drop (suc n) chunks)) (sym (take-map f n chunks)) ∙ ap (λ l. take n (map f chunks) ++ l) (sym (drop-map f (suc n) chunks))

-- parts one after another
pub joined-append : {A : Type 0} (ps qs : List (List A)) → joined (ps ++ qs) ≡ joined ps ++ joined qs
joined-append [] qs = refl
joined-append (p ∷ ps) qs = ap (λ l. p ++ l) (joined-append ps qs) ∙ sym (append_assoc p (joined ps) (joined qs))

-- those up to a place, and the others
pub joined-halves : {A : Type 0} (n : ℕ) (ps : List (List A)) → joined ps ≡ joined (take n ps) ++ joined (drop n ps)
joined-halves n ps = ap joined (sym (take-append-drop n ps)) ∙ joined-append (take n ps) (drop n ps)

-- the part at a place and those behind it
pub joined-here : {A : Type 0} (n : ℕ) (ps : List (List A)) (d : List A) → n < length ps → joined (drop n ps) ≡ get_or ps n d ++ joined (drop (n + 1) ps)
joined-here n ps d lt = ap joined (drop_more ps n d lt)

module _ {K : Type 0} (cmp : K → K → Ordering) (total : IsTotalOrder cmp) where
  above : (x y : K) → cmp x y ≡ Less → cmp y x ≡ Greater
  above x y h = total.antisymm y x ∙ ap ordering_reverse h

  pub under : (x y : K) → cmp x y ≡ Greater → cmp y x ≡ Less
  under x y h = total.antisymm y x ∙ ap ordering_reverse h

  module _ {V : Type 0} where
    -- a key below the first row is below each later one
    pub before_later : (k : K) (a : List (K × V)) (e : K × V) (b : List (K × V)) → IsBelow cmp k (a ++ e ∷ b) → Ascends cmp (a ++ e ∷ b) → cmp k e.0 ≡ Less
    before_later k [] e b below asc = below
    before_later k (h ∷ t) e b below asc = total.trans k h.0 e.0 below (before_later h.0 t e b asc.0 asc.1)

    -- what stands before a row is below a key that isn't below that row
    pub below_first : (k : K) (a : List (K × V)) (e : K × V) (b : List (K × V)) → Ascends cmp (a ++ e ∷ b) → (cmp k e.0 ≡ Less → ⊥) → AreBelow cmp a k
    below_first k [] e b asc not = tt
    below_first k (h ∷ t) e b asc not =
        let lower = before_later h.0 t e b asc.0 asc.1 in (
          by_order (cmp k e.0)
              (λ less. absurd (not less))
              (λ same. alike_right total k e.0 h.0 same ∙ lower)
              (λ more. total.trans h.0 e.0 k lower (under k e.0 more)),
          below_first k t e b asc.1 not,
        )

    is_below_more : (k : K) (a b : List (K × V)) → 0 < length a → IsBelow cmp k a → IsBelow cmp k (a ++ b)
    is_below_more k [] b some below = absurd (omega (arith, some))
    is_below_more k (e ∷ es) b some below = below

    below_rows : (k : K) (a p b : List (K × V)) → Ascends cmp (a ++ (p ++ b)) → 0 < length p → (IsBelow cmp k p → ⊥) → AreBelow cmp a k
    below_rows k a [] b asc some not = absurd (omega (arith, some))
    below_rows k a (e ∷ es) b asc some not = below_first k a e (es ++ b) asc not

    -- a search that goes on before a part that is above the key
    pub above_here : (k : K) (n : ℕ) (ps : List (List (K × V))) (d : List (K × V)) → n < length ps → 0 < length (get_or ps n d) → IsBelow cmp k (get_or ps n d) → IsBelow cmp k (joined (drop n ps))
    above_here k n ps d lt some below = subst (λ l. IsBelow cmp k l) (sym (joined-here n ps d lt)) (is_below_more k (get_or ps n d) (joined (drop (n + 1) ps)) some below)

    -- or goes on at one that isn't
    pub below_here : (k : K) (n : ℕ) (ps : List (List (K × V))) (d : List (K × V)) → n < length ps → Ascends cmp (joined ps) → 0 < length (get_or ps n d) → (IsBelow cmp k (get_or ps n d) → ⊥) → AreBelow cmp (joined (take n ps)) k
    below_here k n ps d lt asc some not =
        let is = joined-halves n ps ∙ ap (λ l. joined (take n ps) ++ l) (joined-here n ps d lt) in
        below_rows k (joined (take n ps)) (get_or ps n d) (joined (drop (n + 1) ps)) (subst (λ l. Ascends cmp l) is asc) some not

    -- what stands before rows that aren't above a key is below it
    pub below_half : (k : K) (a p : List (K × V)) → Ascends cmp (a ++ p) → 0 < length p → (IsBelow cmp k p → ⊥) → AreBelow cmp a k
    below_half k a [] asc some not = absurd (omega (arith, some))
    below_half k a (e ∷ es) asc some not = below_first k a e es asc not

    -- nothing is below the end
    pub above_end : (k : K) (n : ℕ) (ps : List (List (K × V))) → length ps ≤ n → IsBelow cmp k (joined (drop n ps))
    above_end k n ps le = subst (λ l. IsBelow cmp k (joined l)) (sym (drop_all n ps le)) tt

    -- look-ups, puts and removals pass over what is below, and go no further than what is above
    at_behind : (k : K) (a b : List (K × V)) → AreBelow cmp a k → at cmp k (a ++ b) ≡ at cmp k b
    at_behind k [] b below = refl
    at_behind k (h ∷ t) b below = rw (above h.0 k below.0) (at_behind k t b below.1)

    at_none : (k : K) (b : List (K × V)) → IsBelow cmp k b → at cmp k b ≡ None
    at_none k [] next = refl
    at_none k (e ∷ es) next = rw next refl

    at_before : (k : K) (a b : List (K × V)) → IsBelow cmp k b → at cmp k (a ++ b) ≡ at cmp k a
    at_before k [] b next = at_none k b next
    at_before k (e ∷ es) b next = by_order (cmp k e.0) (λ h. rw h refl) (λ h. rw h refl) (λ h. rw h (at_before k es b next))

    pub put_behind : (k : K) (v : V) (a b : List (K × V)) → AreBelow cmp a k → put cmp k v (a ++ b) ≡ a ++ put cmp k v b
    put_behind k v [] b below = refl
    put_behind k v (h ∷ t) b below = rw (above h.0 k below.0) (ap (λ l. h ∷ l) (put_behind k v t b below.1))

    put_first : (k : K) (v : V) (b : List (K × V)) → IsBelow cmp k b → put cmp k v b ≡ (k, v) ∷ b
    put_first k v [] next = refl
    put_first k v (e ∷ es) next = rw next refl

    pub put_before : (k : K) (v : V) (a b : List (K × V)) → IsBelow cmp k b → put cmp k v (a ++ b) ≡ put cmp k v a ++ b
    put_before k v [] b next = put_first k v b next
    put_before k v (e ∷ es) b next = by_order (cmp k e.0) (λ h. rw h refl) (λ h. rw h refl) (λ h. rw h (ap (λ l. e ∷ l) (put_before k v es b next)))

    without_behind : (k : K) (a b : List (K × V)) → AreBelow cmp a k → without cmp k (a ++ b) ≡ a ++ without cmp k b
    without_behind k [] b below = refl
    without_behind k (h ∷ t) b below = rw (above h.0 k below.0) (ap (λ l. h ∷ l) (without_behind k t b below.1))

    without_first : (k : K) (b : List (K × V)) → IsBelow cmp k b → without cmp k b ≡ b
    without_first k [] next = refl
    without_first k (e ∷ es) next = rw next refl

    without_before : (k : K) (a b : List (K × V)) → IsBelow cmp k b → without cmp k (a ++ b) ≡ without cmp k a ++ b
    without_before k [] b next = without_first k b next
    without_before k (e ∷ es) b next = by_order (cmp k e.0) (λ h. rw h refl) (λ h. rw h refl) (λ h. rw h (ap (λ l. e ∷ l) (without_before k es b next)))

    -- so a key's part is all that they see
    pub at_part : (k : K) (a p b : List (K × V)) → AreBelow cmp a k → IsBelow cmp k b → at cmp k (a ++ (p ++ b)) ≡ at cmp k p
    at_part k a p b below next = at_behind k a (p ++ b) below ∙ at_before k p b next

    pub put_part : (k : K) (v : V) (a p b : List (K × V)) → AreBelow cmp a k → IsBelow cmp k b → put cmp k v (a ++ (p ++ b)) ≡ a ++ (put cmp k v p ++ b)
    put_part k v a p b below next = put_behind k v a (p ++ b) below ∙ ap (λ l. a ++ l) (put_before k v p b next)

    pub without_part : (k : K) (a p b : List (K × V)) → AreBelow cmp a k → IsBelow cmp k b → without cmp k (a ++ (p ++ b)) ≡ a ++ (without cmp k p ++ b)
    without_part k a p b below next = without_behind k a (p ++ b) below ∙ ap (λ l. a ++ l) (without_before k p b next)

    -- the rows on either side ascend
    pub ascends_before : (a b : List (K × V)) → Ascends cmp (a ++ b) → Ascends cmp a
    ascends_before [] b asc = tt
    ascends_before (e ∷ []) b asc = (tt, tt)
    ascends_before (e ∷ d ∷ es) b asc = (asc.0, ascends_before (d ∷ es) b asc.1)

    pub ascends_behind : (a b : List (K × V)) → Ascends cmp (a ++ b) → Ascends cmp b
    ascends_behind [] b asc = asc
    ascends_behind (e ∷ es) b asc = ascends_behind es b asc.1

    -- and so do those of a part
    pub ascends_part : (a p b : List (K × V)) → Ascends cmp (a ++ (p ++ b)) → Ascends cmp p
    ascends_part a p b asc = ascends_before p b (ascends_behind a (p ++ b) asc)

    -- rows that are added one after another
    all_below : (a : List (K × V)) (e : K × V) (b : List (K × V)) → Ascends cmp (a ++ e ∷ b) → AreBelow cmp a e.0
    all_below [] e b asc = tt
    all_below (h ∷ t) e b asc = (before_later h.0 t e b asc.0 asc.1, all_below t e b asc.1)

    pub next_absent : (a : List (K × V)) (e : K × V) (b : List (K × V)) → Ascends cmp (a ++ e ∷ b) → at cmp e.0 a ≡ None
    next_absent a e b asc = ap (λ l. at cmp e.0 l) (sym (append-nil a)) ∙ at_behind e.0 a [] (all_below a e b asc)

    pub next_put : (a : List (K × V)) (e : K × V) (b : List (K × V)) → Ascends cmp (a ++ e ∷ b) → put cmp e.0 e.1 a ≡ a ++ e ∷ []
    next_put a e b asc = ap (λ l. put cmp e.0 e.1 l) (sym (append-nil a)) ∙ put_behind e.0 e.1 a [] (all_below a e b asc)

-- the parts from a chunk on
parts_from : {K V : Type 0} (chunks : List (Chunk K V)) (n : ℕ) (c : Chunk K V) → n < length chunks → c ≡ get_or chunks n c → joined (drop n (parts chunks)) ≡ c.rows.items ++ joined (drop (n + 1) (parts chunks))
parts_from chunks n c lt is =
    let there : n < length (parts chunks) = omega (arith, lt, count_parts chunks) in
    ap joined (drop-cons (parts chunks) n [] there) ∙ ap (λ l. l ++ joined (drop (suc n) (parts chunks))) (sym (rows_at chunks n c lt is)) ∙ rw add-one refl

-- the row at a place of the chunks from one on: it is in this chunk, or behind it
pub nth_here : {K V : Type 0} (chunks : List (Chunk K V)) (n left : ℕ) (c : Chunk K V) → n < length chunks → c ≡ get_or chunks n c → left < length c.rows.items → slice_get (joined (drop n (parts chunks))) left ≡ slice_get c.rows.items left
nth_here chunks n left c lt is within = ap (λ l. slice_get l left) (parts_from chunks n c lt is) ∙ nth-front c.rows.items (joined (drop (n + 1) (parts chunks))) left within

pub nth_later : {K V : Type 0} (chunks : List (Chunk K V)) (n left : ℕ) (c : Chunk K V) → n < length chunks → c ≡ get_or chunks n c → length c.rows.items ≤ left → slice_get (joined (drop n (parts chunks))) left ≡ slice_get (joined (drop (n + 1) (parts chunks))) (left - length c.rows.items)
nth_later chunks n left c lt is past = ap (λ l. slice_get l left) (parts_from chunks n c lt is) ∙ nth-behind c.rows.items (joined (drop (n + 1) (parts chunks))) left past
