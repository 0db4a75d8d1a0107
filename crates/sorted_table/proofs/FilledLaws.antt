-- Neighbours that are joined: which of them stay filled.
use Rattle.std.proofs.Common.{◌≡◌, ◌≤◌, ◌<◌, ◌+◌, ℕ, zero, suc, List, [], ◌∷◌, ◌++◌, drop, take, get_or, set, length, length-append, append_assoc, refl, sym, ap, ◌∙◌, subst, arith}
use Rattle.std.proofs.lemmas.List.{drop_more, take-append-drop, take_more}
use Rattle.std.specs.List.{remove}
use Rattle.sorted_table.specs.Chunks.{ArePair, AreFilled, IsFilledBy, IsJoined, joined}

pub next_is : (n : ℕ) → n + 1 ≡ suc n
next_is n = omega arith

-- a part and the one at a place
pub filled_by : {A : Type 0} (ps : List (List A)) (n : ℕ) (p : List A) → n < length ps → ArePair p (get_or ps n []) → IsFilledBy p (drop n ps)
filled_by ps n p lt pair = subst (λ l. IsFilledBy p l) (sym (drop_more ps n [] lt)) pair

pub filled_more : {A : Type 0} (p q : List A) (ps : List (List A)) → length p ≤ length q → IsFilledBy p ps → IsFilledBy q ps
filled_more p q [] le is = tt
filled_more p q (r ∷ rs) le is = record { first = omega (arith, le, is.first); second = is.second; both = omega (arith, le, is.both) }

-- the parts with two neighbours as one
abbrev merged : {A : Type 0} → ℕ → List (List A) → List (List A)
merged n ps = set (remove ps (suc n)) n (get_or ps n [] ++ get_or ps (suc n) [])

merge : {A : Type 0} (n : ℕ) (ps : List (List A)) → suc n < length ps → AreFilled (drop (suc n) ps) → IsJoined n ps (merged n ps)
merge n [] lt filled = absurd (omega (arith, lt))
merge n (p ∷ []) lt filled = absurd (omega (arith, lt))
merge zero (p ∷ q ∷ qs) lt filled = record {
  rows = append_assoc p q (joined qs);
  before = refl;
  filled = (filled_more q (p ++ q) qs (omega (arith, length-append p q)) filled.0, filled.1);
  more = omega (arith, length-append p q);
  within = omega arith;
}
merge (suc n) (p ∷ q ∷ qs) lt filled =
    let is = merge n (q ∷ qs) (omega (arith, lt)) filled in
    record {
      rows = ap (λ l. p ++ l) is.rows;
      before = ap (λ l. p ∷ l) is.before;
      filled = is.filled;
      more = is.more;
      within = omega (arith, is.within);
    }

pub joined_next : {A : Type 0} (n : ℕ) (ps : List (List A)) (p : List A) → n + 1 < length ps → AreFilled (drop (n + 1) ps) → p ≡ get_or ps n [] ++ get_or ps (n + 1) [] → IsJoined n ps (set (remove ps (n + 1)) n p)
joined_next n ps p lt filled is =
    let made = merge n ps (omega (arith, lt)) (subst (λ m. AreFilled (drop m ps)) (next_is n) filled) in
    let next = subst (λ m. IsJoined n ps (set (remove ps m) n (get_or ps n [] ++ get_or ps m []))) (sym (next_is n)) made in
    subst (λ q. IsJoined n ps (set (remove ps (n + 1)) n q)) (sym is) next

-- nothing was joined
pub joined_none : {A : Type 0} (n : ℕ) (ps : List (List A)) → n < length ps → AreFilled (drop (n + 1) ps) → IsFilledBy (get_or ps n []) (drop (n + 1) ps) → IsJoined n ps ps
joined_none n ps lt filled by = record {
  rows = refl;
  before = refl;
  filled = subst (λ l. AreFilled l) (sym (drop_more ps n [] lt)) (by, filled);
  more = omega arith;
  within = lt;
}

-- filled up to a part, and from one with as many rows on
regrown : {A : Type 0} (a : List (List A)) (p q : List A) (b : List (List A)) → AreFilled (a ++ p ∷ []) → length p ≤ length q → AreFilled (q ∷ b) → AreFilled (a ++ q ∷ b)
regrown [] p q b front le back = back
regrown (x ∷ []) p q b front le back = (record { first = front.0.first; second = omega (arith, le, front.0.second); both = omega (arith, le, front.0.both) }, back)
regrown (x ∷ y ∷ ys) p q b front le back = (front.0, regrown (y ∷ ys) p q b front.1 le back)

-- what was filled up to a part, and joined from there on, is filled
pub filled_again : {A : Type 0} (n : ℕ) (old new : List (List A)) → n < length old → AreFilled (take (n + 1) old) → IsJoined n old new → AreFilled new
filled_again n old new lt front is =
    let before = subst (λ l. AreFilled l) (take_more old n [] lt) front in
    let back = subst (λ l. AreFilled l) (drop_more new n [] is.within) is.filled in
    let whole = regrown (take n old) (get_or old n []) (get_or new n []) (drop (n + 1) new) before is.more back in
    let parts = ap (λ l. l ++ drop n new) (sym is.before) ∙ take-append-drop n new in
    subst (λ l. AreFilled l) (ap (λ l. take n old ++ l) (sym (drop_more new n [] is.within)) ∙ parts) whole
