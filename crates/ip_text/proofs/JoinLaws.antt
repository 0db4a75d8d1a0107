-- A row of texts, one text at a time.
use Rattle.std.proofs.Common.{◌≡◌, ◌<◌, ◌+◌, ℕ, nat_lt, List, [], ◌∷◌, ◌++◌, length, take, get_or, map, refl, sym, ap, ◌∙◌, inl, inr, arith, append_assoc}
use Rattle.std.specs.List.{join_with_byte}
use Rattle.std.proofs.lemmas.Bool.{cases_eq, lt-ltb}
use Rattle.std.proofs.lemmas.List.{take_more, length-map, map-append, length-take-le}
use Rattle.ip_text.specs.Rows.{behind, row_text}

-- the text that is last
pub join-last : (c : ℕ) (xs : List (List ℕ)) (y : List ℕ) → 0 < length xs → join_with_byte c (xs ++ y ∷ []) ≡ join_with_byte c xs ++ c ∷ y
join-last c [] y some = absurd (omega arith)
join-last c (x ∷ []) y some = refl
join-last c (x ∷ z ∷ zs) y some = ap (λ l. x ++ c ∷ l) (join-last c (z ∷ zs) y (omega arith)) ∙ sym (append_assoc x (c ∷ join_with_byte c (z ∷ zs)) (c ∷ y))

row_more_some : (c : ℕ) (piece : ℕ → List ℕ) (vs : List ℕ) (i : ℕ) → 0 < i → i < length vs → row_text c piece (take (i + 1) vs) ≡ row_text c piece (take i vs) ++ c ∷ piece (get_or vs i 0)
row_more_some c piece vs i some less =
    let count : length (map piece (take i vs)) ≡ i = length-map (take i vs) piece ∙ length-take-le i vs (omega arith) in
    ap (row_text c piece) (take_more vs i 0 less) ∙ ap (join_with_byte c) (map-append piece (take i vs) (get_or vs i 0 ∷ [])) ∙ join-last c (map piece (take i vs)) (piece (get_or vs i 0)) (omega arith)

row_more_first : (c : ℕ) (piece : ℕ → List ℕ) (vs : List ℕ) → 0 < length vs → row_text c piece (take (0 + 1) vs) ≡ row_text c piece (take 0 vs) ++ piece (get_or vs 0 0)
row_more_first c piece [] some = absurd (omega arith)
row_more_first c piece (v ∷ vs) some = refl

-- one more value
pub row_more : (c : ℕ) (piece : ℕ → List ℕ) (vs : List ℕ) (i : ℕ) → i < length vs → row_text c piece (take (i + 1) vs) ≡ row_text c piece (take i vs) ++ behind c (nat_lt 0 i) (piece (get_or vs i 0))
row_more c piece vs i less = elim (cases_eq i 0) [
  | inl zero ↦ rw zero (row_more_first c piece vs (omega arith))
  | inr more ↦ rw (lt-ltb 0 i (omega arith)) (row_more_some c piece vs i (omega arith) less)
]
