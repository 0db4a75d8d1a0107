-- Laws of the words of a line.
use Rattle.std.proofs.Common.{◌≡◌, ◌≤◌, ◌+◌, ◌-◌, ◌<◌, ℕ, List, [], ◌∷◌, length, take, drop, get_or, Bool, true, false, cond, eqb, ◌⊎◌, inl, inr, refl, ap, ◌∙◌, arith, add-one, drop-cons}
use Rattle.std.proofs.lemmas.Bool.{ne_eqb}
use Rattle.std.proofs.lemmas.List.{take_all, length-drop}
use Rattle.std.proofs.Math.Seq.{drop-length}
use Rattle.script_words.specs.LengthLaws.{which, onto_length}
use Rattle.script_words.specs.Words.{words, goes_on, word_len}

off : (t : Bool) → cond t false true ≡ true → t ≡ false
off true e = absurd cc
off false e = refl

on : (t : Bool) → cond t false true ≡ false → t ≡ true
on true e = refl
on false e = absurd cc

pub words_split : (bs : List ℕ) → goes_on bs ≡ true → words bs ≡ take (word_len bs) bs ∷ words (drop (word_len bs) bs)
unfolding words
words_split [] goes = absurd cc
words_split (b ∷ []) goes = rw (off (eqb b 32) goes) refl
words_split (b ∷ c ∷ bs) goes = elim (which (goes_on (c ∷ bs))) [
  | inl more ↦ let rest = words_split (c ∷ bs) more in rw (off (eqb b 32) goes, more, rest) refl
  | inr end ↦ let none : word_len (c ∷ bs) ≡ 0 = rw (on (eqb c 32) end) refl in rw (off (eqb b 32) goes, end, none) refl
]

pub words_short : (bs : List ℕ) → length (words bs) ≤ length bs
unfolding words
words_short [] = omega arith
words_short (b ∷ bs) = elim (which (eqb b 32)) [
  | inl space ↦ rw space (omega (arith, words_short bs))
  | inr other ↦ elim (which (goes_on bs)) [
    | inl more ↦ rw (other, more) (omega (arith, words_short bs, onto_length b (words bs)))
    | inr end ↦ rw (other, end) (omega (arith, words_short bs))
  ]
]

pub word_len_within : (bs : List ℕ) → word_len bs ≤ length bs
word_len_within [] = omega arith
word_len_within (b ∷ bs) = elim (which (eqb b 32)) [
  | inl space ↦ rw space (omega arith)
  | inr other ↦ rw other (omega (arith, word_len_within bs))
]

pub words_skip : (bs : List ℕ) (i : ℕ) → i < length bs → get_or bs i 0 ≡ 32 → words (drop (i + 1) bs) ≡ words (drop i bs)
unfolding words
words_skip bs i less space = rw (add-one, drop-cons bs i 0, space) refl

pub goes_here : (bs : List ℕ) (i : ℕ) → i < length bs → (get_or bs i 0 ≡ 32 → ⊥) → goes_on (drop i bs) ≡ true
goes_here bs i less other = rw (drop-cons bs i 0, ne_eqb (get_or bs i 0) 32 other) refl

pub words_over : (bs : List ℕ) → words bs ≡ words (drop (length bs) bs) → words bs ≡ []
unfolding words
words_over bs e = e ∙ ap words (drop-length bs)

pub rest_is : (bs : List ℕ) (i : ℕ) → take (length bs - i) (drop i bs) ≡ drop i bs
rest_is bs i = take_all (length bs - i) (drop i bs) (omega (arith, length-drop i bs))

pub empty_is : (bs : List ℕ) → length bs ≡ 0 → words bs ≡ []
unfolding words
empty_is [] none = refl
empty_is (b ∷ bs) none = absurd (omega arith)

pub starts_is : (bs : List ℕ) → (bs ≡ []) ⊎ (goes_on bs ≡ true) → (length bs ≡ 0 → ⊥) → goes_on bs ≡ true
starts_is bs (inl none) some = absurd (some (ap length none))
starts_is bs (inr goes) some = goes

pub next_is : (bs : List ℕ) (n : ℕ) → n ≡ word_len bs → goes_on bs ≡ true → words bs ≡ take n bs ∷ words (take (length bs - n) (drop n bs))
next_is bs n is goes = rw (rest_is bs n, is) (words_split bs goes)
