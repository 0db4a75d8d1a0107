-- Hexadecimal text is of its digits.
use Rattle.std.proofs.Common.{◌≡◌, ℕ, zero, suc, ◌<◌, ◌/◌, ◌%◌, ◌*◌, ◌&&◌, inl, inr, Bool, true, List, [], ◌∷◌, length, slice_index, get_or, Fits, w8, refl, ap, ◌∙◌, arith}
use Rattle.std.proofs.lemmas.Bool.{and_parts, cases_lt}
use Rattle.hex.specs.Hex.{encode_with, encode_lower, lower_digits}
use Rattle.hex.proofs.HexLemmas.{length-encode_with}
use Rattle.sha2.specs.Sha256.{sha256}
use Rattle.sha2.proofs.Facts256.{length-sha256}
use Rattle.saved_state.specs.Digest.{all_lower_hex, hex_digest, is_digest, is_lower_hex}

abbrev all_good : ℕ → Bool
all_good zero = true
all_good (suc n) = is_lower_hex (slice_index lower_digits n) && all_good n

good_at : (n k : ℕ) → all_good n ≡ true → k < n → is_lower_hex (slice_index lower_digits k) ≡ true
good_at zero k h lt = absurd (omega arith)
good_at (suc n) k h lt =
    let parts = and_parts (is_lower_hex (slice_index lower_digits n)) (all_good n) h in
    elim (cases_lt k n) [
      | inl below ↦ good_at n k parts.1 below
      | inr top ↦
          let e : k ≡ n = omega arith in
          rw e parts.0
    ]

good : (k : ℕ) → k < 16 → is_lower_hex (slice_index lower_digits k) ≡ true
good k lt = good_at 16 k refl lt

pub all_hex : (xs : List ℕ) → ((i : ℕ) → Fits w8 (get_or xs i 0)) → all_lower_hex (encode_lower xs) ≡ true
unfolding encode_with
all_hex [] h = refl
all_hex (b ∷ rest) h =
    let byte : b < 256 = omega (arith, h 0) in
    let high : b / 16 < 16 = omega (arith, byte) in
    let low : b % 16 < 16 = omega arith in
    rw (good (b / 16) high, good (b % 16) low, all_hex rest (λ i. h (suc i)))

pub digest_form : (s m : List ℕ) → s ≡ hex_digest m → all_lower_hex s ≡ true → is_digest s ≡ true
digest_form s m h all =
    let len : length s ≡ 64 = ap length h ∙ length-encode_with lower_digits (sha256 m) ∙ ap (λ n. 2 * n) (length-sha256 m) in
    rw (len, all)
