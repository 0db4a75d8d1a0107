-- The lines of a text.
use Rattle.std.proofs.Common.{◌≡◌, ◌≤◌, ◌+◌, ◌-◌, ◌<◌, ℕ, suc, List, [], ◌∷◌, length, take, drop, eqb, inl, inr, refl, arith, add-one}
use Rattle.std.proofs.lemmas.List.{length-drop}
use Rattle.script_words.specs.Lines.{lines, line_len}
use Rattle.script_words.specs.LengthLaws.{which}
use Rattle.script_words.proofs.WordLaws.{rest_is}

pub no_lines : (bs : List ℕ) → length bs ≡ 0 → lines bs ≡ []
unfolding lines
no_lines [] none = refl
no_lines (b ∷ bs) none = absurd (omega arith)

cut_line : (bs : List ℕ) → line_len bs < length bs → lines bs ≡ take (line_len bs) bs ∷ lines (drop (suc (line_len bs)) bs)
unfolding lines
cut_line [] less = absurd (omega arith)
cut_line (b ∷ bs) less = elim (which (eqb b 10)) [
  | inl end ↦ rw end refl
  | inr other ↦ let fewer : suc (line_len bs) < suc (length bs) = rw other at less in let rest = cut_line bs (omega arith) in rw (other, rest) refl
]

last_line : (bs : List ℕ) → (length bs ≡ 0 → ⊥) → length bs ≤ line_len bs → lines bs ≡ bs ∷ []
unfolding lines
last_line [] some all = absurd (some refl)
last_line (b ∷ []) some all = elim (which (eqb b 10)) [
  | inl end ↦ let none : 1 ≤ 0 = rw end at all in absurd (omega arith)
  | inr other ↦ rw other refl
]
last_line (b ∷ c ∷ bs) some all = elim (which (eqb b 10)) [
  | inl end ↦ let none : suc (suc (length bs)) ≤ 0 = rw end at all in absurd (omega arith)
  | inr other ↦ let more : suc (suc (length bs)) ≤ suc (line_len (c ∷ bs)) = rw other at all in let rest = last_line (c ∷ bs) (λ none. omega arith) (omega arith) in rw (other, rest) refl
]

pub line_cut : (bs : List ℕ) (n : ℕ) → n ≡ line_len bs → n < length bs → lines bs ≡ take n bs ∷ lines (take (length bs - (n + 1)) (drop (n + 1) bs))
line_cut bs n is less = rw (rest_is bs (n + 1), add-one, is) (cut_line bs (omega arith))

pub line_last : (bs : List ℕ) (n : ℕ) → n ≡ line_len bs → n ≤ length bs → length bs ≤ n → (length bs ≡ 0 → ⊥) → lines bs ≡ bs ∷ lines (take (length bs - n) (drop n bs))
unfolding lines
line_last bs n is within all some =
    let none = no_lines (drop n bs) (omega (arith, length-drop n bs)) in
    rw (rest_is bs n, none) (last_line bs some (omega arith))
