-- Parts of a table that are edited: their rows, and which neighbours stay filled.
use Rattle.std.proofs.Common.{◌≡◌, ◌≤◌, ◌<◌, ◌+◌, ◌*◌, ℕ, zero, suc, List, [], ◌∷◌, ◌++◌, None, Some, drop, take, get_or, set, length, length-append, append_assoc, refl, sym, ap, ◌∙◌, subst, arith}
use Rattle.std.proofs.lemmas.List.{drop_more, get_or-take, append-nil, length-set, set_split, take-take, take_more}
use Rattle.std.specs.Cmp.{IsTotalOrder}
use Rattle.std.specs.List.{insert}
use Rattle.std.specs.declared.cmp.Ordering.{Ordering}
use Rattle.std.specs.declared.cmp.Ordering.TheVariants.{Less, Equal}
use Rattle.keyed.specs.Keyed.{at, put, without, IsBelow, Ascends}
use Rattle.keyed.specs.KeyedLaws.{by_order}
use Rattle.sorted_table.specs.Rows.{first_of, half}
use Rattle.sorted_table.specs.Chunks.{AreBelow, AreFilled, IsJoined, IsParted, joined}
use Rattle.sorted_table.proofs.ChunkLaws.{under, ascends_part, at_part, joined-append, joined-halves, joined-here, put_part, without_part}
use Rattle.sorted_table.proofs.FilledLaws.{filled_by, filled_more, next_is}

pub joined-parts : {A : Type 0} (n : ℕ) (ps : List (List A)) → n < length ps → joined ps ≡ joined (take n ps) ++ (get_or ps n [] ++ joined (drop (n + 1) ps))
joined-parts n ps lt = joined-halves n ps ∙ ap (λ l. joined (take n ps) ++ l) (joined-here n ps [] lt)

pub joined-set : {A : Type 0} (n : ℕ) (ps : List (List A)) (p : List A) → n < length ps → joined (set ps n p) ≡ joined (take n ps) ++ (p ++ joined (drop (n + 1) ps))
joined-set n ps p lt = ap joined (set_split ps n p lt) ∙ joined-append (take n ps) (p ∷ drop (suc n) ps) ∙ ap (λ m. joined (take n ps) ++ (p ++ joined (drop m ps))) (sym (next_is n))

-- a part that grows leaves neighbours filled
pub filled-set : {A : Type 0} (n : ℕ) (ps : List (List A)) (p : List A) → AreFilled ps → length (get_or ps n []) ≤ length p → AreFilled (set ps n p)
filled-set n [] p filled le = tt
filled-set zero (q ∷ qs) p filled le = (filled_more q p qs le filled.0, filled.1)
filled-set (suc n) (q ∷ []) p filled le = (tt, tt)
filled-set (suc zero) (q ∷ r ∷ rs) p filled le = (record { first = filled.0.first; second = omega (arith, le, filled.0.second); both = omega (arith, le, filled.0.both) }, filled-set zero (r ∷ rs) p filled.1 le)
filled-set (suc (suc n)) (q ∷ r ∷ rs) p filled le = (filled.0, filled-set (suc n) (r ∷ rs) p filled.1 le)

-- neighbours up to a place, and from there on
pub filled_front : {A : Type 0} (n : ℕ) (ps : List (List A)) → AreFilled ps → AreFilled (take n ps)
filled_front zero ps filled = tt
filled_front (suc n) [] filled = tt
filled_front (suc zero) (p ∷ ps) filled = (tt, tt)
filled_front (suc (suc n)) (p ∷ []) filled = (tt, tt)
filled_front (suc (suc n)) (p ∷ q ∷ qs) filled = (filled.0, filled_front (suc n) (q ∷ qs) filled.1)

pub filled_back : {A : Type 0} (n : ℕ) (ps : List (List A)) → AreFilled ps → AreFilled (drop n ps)
filled_back zero ps filled = filled
filled_back (suc n) [] filled = tt
filled_back (suc n) (p ∷ ps) filled = filled_back n ps filled.1

-- so there are few parts: two of them have more rows than half a chunk has room for
pub few : {A : Type 0} (ps : List (List A)) → AreFilled ps → (half + 1) * length ps ≤ 2 * length (joined ps) + (half + 1)
few [] filled = omega arith
few (p ∷ []) filled = omega arith
few (p ∷ q ∷ qs) filled = omega (arith, filled.0.both, few qs filled.1.1, length-append p (q ++ joined qs), length-append q (joined qs))

-- the first row of all is that of the first part
pub first_part : {A : Type 0} (ps : List (List A)) (p : List A) → AreFilled ps → 0 < length ps → p ≡ get_or ps 0 [] → first_of p ≡ first_of (joined ps)
first_part [] p filled some is = absurd (omega (arith, some))
first_part (q ∷ []) p filled some is = ap first_of (is ∙ sym (append-nil q))
first_part ([] ∷ r ∷ rs) p filled some is = absurd (omega (arith, filled.0.first))
first_part ((e ∷ es) ∷ r ∷ rs) p filled some is = ap first_of is

-- the parts up to one and that one
pub joined_more : {A : Type 0} (n : ℕ) (ps : List (List A)) (d : List A) → n < length ps → joined (take (n + 1) ps) ≡ joined (take n ps) ++ get_or ps n d
joined_more n ps d lt = ap joined (take_more ps n d lt) ∙ joined-append (take n ps) (get_or ps n d ∷ []) ∙ ap (λ l. joined (take n ps) ++ l) (append-nil (get_or ps n d))

-- what is the same up to a place is the same up to one before it
pub same_front : {A : Type 0} (n m : ℕ) (ps qs : List A) → n ≤ m → take m ps ≡ take m qs → take n ps ≡ take n qs
same_front n m ps qs le is = sym (take-take n m ps le) ∙ ap (λ l. take n l) is ∙ take-take n m qs le

-- a part in two, after its place
pub record IsSplit {A : Type 0} (n : ℕ) (old new : List (List A)) (lower upper : List A) : Type 0 where
  pub rows : joined new ≡ joined (set old n (lower ++ upper))
  pub before : take n new ≡ take n old
  pub behind : drop (suc (suc n)) new ≡ drop (suc n) old
  pub at : get_or new n [] ≡ lower
  pub next : get_or new (suc n) [] ≡ upper

pub split_at : {A : Type 0} (n : ℕ) (ps : List (List A)) (lower upper : List A) → n < length ps → IsSplit n ps (insert (set ps n lower) (suc n) upper) lower upper
split_at n [] lower upper lt = absurd (omega (arith, lt))
split_at zero (p ∷ ps) lower upper lt = record {
  rows = sym (append_assoc lower upper (joined ps));
  before = refl;
  behind = refl;
  at = refl;
  next = refl;
}
split_at (suc n) (p ∷ ps) lower upper lt =
    let is = split_at n ps lower upper (omega (arith, lt)) in
    record {
      rows = ap (λ l. p ++ l) is.rows;
      before = ap (λ l. p ∷ l) is.before;
      behind = is.behind;
      at = is.at;
      next = is.next;
    }

-- the two parts and those behind them, once the second took in its next
pub filled_pair : {A : Type 0} (n : ℕ) (old new : List (List A)) → n < length old → IsJoined (n + 1) old new → half ≤ length (get_or old n []) → half ≤ length (get_or old (n + 1) []) → AreFilled (drop n new)
filled_pair n old new lt is lower upper =
    let there : n < length new = omega (arith, is.within) in
    let same : get_or new n [] ≡ get_or old n [] = sym (get_or-take (n + 1) new n [] (omega arith)) ∙ ap (λ l. get_or l n []) is.before ∙ get_or-take (n + 1) old n [] (omega arith) in
    let by = filled_by new (n + 1) (get_or new n []) is.within (record {
      first = omega (arith, ap length same, lower);
      second = omega (arith, upper, is.more);
      both = omega (arith, ap length same, lower, upper, is.more);
    }) in
    subst (λ l. AreFilled l) (sym (drop_more new n [] there)) (by, is.filled)

module _ {K : Type 0} (cmp : K → K → Ordering) (total : IsTotalOrder cmp) where
  module _ {V : Type 0} where
    -- rows that ascend still do after an edit
    below-put : (j k : K) (v : V) (l : List (K × V)) → cmp j k ≡ Less → IsBelow cmp j l → IsBelow cmp j (put cmp k v l)
    below-put j k v [] lt b = lt
    below-put j k v (e ∷ es) lt b = by_order (cmp k e.0) (λ h. rw h lt) (λ h. rw h lt) (λ h. rw h b)

    below_same : (j k : K) (l : List (K × V)) → cmp j k ≡ Equal → IsBelow cmp k l → IsBelow cmp j l
    below_same j k [] same b = tt
    below_same j k (e ∷ es) same b = total.congr j k e.0 same ∙ b

    pub ascends-put : (k : K) (v : V) (l : List (K × V)) → Ascends cmp l → Ascends cmp (put cmp k v l)
    ascends-put k v [] asc = (tt, tt)
    ascends-put k v (e ∷ es) asc = by_order (cmp k e.0)
        (λ h. rw h (h, asc))
        (λ h. rw h (below_same k e.0 es h asc.0, asc.1))
        (λ h. rw h (below-put e.0 k v es (under cmp total k e.0 h) asc.0, ascends-put k v es asc.1))

    below_before : (j k : K) (l : List (K × V)) → cmp j k ≡ Less → IsBelow cmp k l → IsBelow cmp j l
    below_before j k [] lt b = tt
    below_before j k (e ∷ es) lt b = total.trans j k e.0 lt b

    below-without : (j k : K) (l : List (K × V)) → IsBelow cmp j l → Ascends cmp l → IsBelow cmp j (without cmp k l)
    below-without j k [] b asc = tt
    below-without j k (e ∷ es) b asc = by_order (cmp k e.0) (λ h. rw h b) (λ h. rw h (below_before j e.0 es b asc.0)) (λ h. rw h b)

    pub ascends-without : (k : K) (l : List (K × V)) → Ascends cmp l → Ascends cmp (without cmp k l)
    ascends-without k [] asc = tt
    ascends-without k (e ∷ es) asc = by_order (cmp k e.0)
        (λ h. rw h asc)
        (λ h. rw h asc.1)
        (λ h. rw h (below-without e.0 k es asc.0 asc.1, ascends-without k es asc.1))

    -- a put doesn't shorten them
    pub length-put : (k : K) (v : V) (l : List (K × V)) → length l ≤ length (put cmp k v l)
    length-put k v [] = omega arith
    length-put k v (e ∷ es) = by_order (cmp k e.0) (λ h. rw h (omega arith)) (λ h. rw h (omega arith)) (λ h. rw h (omega (arith, length-put k v es)))

    pub length-put_new : (k : K) (v : V) (l : List (K × V)) → at cmp k l ≡ None → length (put cmp k v l) ≡ length l + 1
    length-put_new k v [] none = refl
    length-put_new k v (e ∷ es) none = by_order (cmp k e.0)
        (λ h. rw h (omega arith))
        (λ h. let no : Some e.1 ≡ None = rw h at none in absurd (cc))
        (λ h. let none2 : at cmp k es ≡ None = rw h at none in rw h (omega (arith, length-put_new k v es none2)))

    pub length-without : (k : K) (v : V) (l : List (K × V)) → at cmp k l ≡ Some v → length (without cmp k l) + 1 ≡ length l
    length-without k v [] is = absurd (cc)
    length-without k v (e ∷ es) is = by_order (cmp k e.0)
        (λ h. let no : None ≡ Some v = rw h at is in absurd (cc))
        (λ h. rw h (omega arith))
        (λ h. let is2 : at cmp k es ≡ Some v = rw h at is in rw h (omega (arith, length-without k v es is2)))

    -- a part at which a key belongs
    pub record IsHome (k : K) (n : ℕ) (ps : List (List (K × V))) : Type 0 where
      pub within : n < length ps
      pub below : AreBelow cmp (joined (take n ps)) k
      pub above : IsBelow cmp k (joined (drop (n + 1) ps))

    pub ascends_home : (n : ℕ) (ps : List (List (K × V))) → n < length ps → Ascends cmp (joined ps) → Ascends cmp (get_or ps n [])
    ascends_home n ps lt asc = ascends_part cmp total (joined (take n ps)) (get_or ps n []) (joined (drop (n + 1) ps)) (subst (λ l. Ascends cmp l) (joined-parts n ps lt) asc)

    pub at_home : (k : K) (n : ℕ) (ps : List (List (K × V))) → IsHome k n ps → at cmp k (joined ps) ≡ at cmp k (get_or ps n [])
    at_home k n ps home = ap (λ l. at cmp k l) (joined-parts n ps home.within) ∙ at_part cmp total k (joined (take n ps)) (get_or ps n []) (joined (drop (n + 1) ps)) home.below home.above

    pub put_home : (k : K) (v : V) (n : ℕ) (ps : List (List (K × V))) (p : List (K × V)) → IsHome k n ps → p ≡ put cmp k v (get_or ps n []) → joined (set ps n p) ≡ put cmp k v (joined ps)
    put_home k v n ps p home is =
        joined-set n ps p home.within
        ∙ ap (λ l. joined (take n ps) ++ (l ++ joined (drop (n + 1) ps))) is
        ∙ sym (ap (λ l. put cmp k v l) (joined-parts n ps home.within) ∙ put_part cmp total k v (joined (take n ps)) (get_or ps n []) (joined (drop (n + 1) ps)) home.below home.above)

    pub without_home : (k : K) (n : ℕ) (ps : List (List (K × V))) (p : List (K × V)) → IsHome k n ps → p ≡ without cmp k (get_or ps n []) → joined (set ps n p) ≡ without cmp k (joined ps)
    without_home k n ps p home is =
        joined-set n ps p home.within
        ∙ ap (λ l. joined (take n ps) ++ (l ++ joined (drop (n + 1) ps))) is
        ∙ sym (ap (λ l. without cmp k l) (joined-parts n ps home.within) ∙ without_part cmp total k (joined (take n ps)) (get_or ps n []) (joined (drop (n + 1) ps)) home.below home.above)

    -- parts stay a table's where a row is put into one of them
    pub parted_put : (k : K) (v : V) (n : ℕ) (ps : List (List (K × V))) (p : List (K × V)) → IsHome k n ps → IsParted cmp ps → p ≡ put cmp k v (get_or ps n []) → IsParted cmp (set ps n p)
    parted_put k v n ps p home parted is = record {
      ascends = subst (λ l. Ascends cmp l) (sym (put_home k v n ps p home is)) (ascends-put k v (joined ps) parted.ascends);
      filled = filled-set n ps p parted.filled (omega (arith, ap length is, length-put k v (get_or ps n [])));
      some = omega (arith, length-set ps n p, parted.some);
    }
