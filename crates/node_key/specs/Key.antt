-- A key's three words of 64 bits as one number.
use Rattle.std.specs.Prelude.{◌≡◌, ℕ, ◌+◌, ◌*◌, ◌/◌, ◌%◌, ◌^◌, ◌<◌, refl}
use Rattle.std.proofs.lemmas.Nat.{div-mul-add, mod-mul-add}

abbrev pub number : ℕ → ℕ → ℕ → ℕ
number high middle low = (high * 2 ^ 64 + middle) * 2 ^ 64 + low

abbrev pub WordsFit : ℕ → ℕ → Type 0
WordsFit middle low = (middle < 2 ^ 64) × (low < 2 ^ 64)

-- the words of a number, the highest first
abbrev pub words : ℕ → ℕ × ℕ × ℕ
words n = (n / 2 ^ 64 / 2 ^ 64, n / 2 ^ 64 % 2 ^ 64, n % 2 ^ 64)

pub words_of_number : (high middle low : ℕ) → WordsFit middle low → words (number high middle low) ≡ (high, middle, low)
words_of_number high middle low fits =
    rw (div-mul-add (high * 2 ^ 64 + middle) (2 ^ 64) low fits.1, mod-mul-add (high * 2 ^ 64 + middle) (2 ^ 64) low fits.1, div-mul-add high (2 ^ 64) middle fits.0, mod-mul-add high (2 ^ 64) middle fits.0) refl
