-- A text has no more lines than bytes.
use Rattle.std.proofs.Common.{◌≡◌, ◌≤◌, ◌+◌, ℕ, List, [], ◌∷◌, length, Bool, true, false, eqb, ◌⊎◌, inl, inr, refl, arith}
use Rattle.script_words.specs.Words.{onto_first}
use Rattle.script_words.specs.Lines.{lines}

pub which : (b : Bool) → (b ≡ true) ⊎ (b ≡ false)
which true = inl refl
which false = inr refl

pub onto_length : (b : ℕ) (ws : List (List ℕ)) → length (onto_first b ws) ≤ length ws + 1
onto_length b [] = omega arith
onto_length b (w ∷ ws) = omega arith

pub lines_short : (bs : List ℕ) → length (lines bs) ≤ length bs
unfolding lines
lines_short [] = omega arith
lines_short (b ∷ bs) = elim (which (eqb b 10)) [
  | inl end ↦ rw end (omega (arith, lines_short bs))
  | inr other ↦ rw other (omega (arith, lines_short bs, onto_length b (lines bs)))
]
