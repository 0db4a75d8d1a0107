-- A key of three words with its lowest bits cleared.
use Rattle.std.proofs.Common.{◌≡◌, ℕ, ◌+◌, ◌-◌, ◌*◌, ◌/◌, ◌%◌, ◌^◌, ◌<◌, ◌≤◌, sym, ap, ◌∙◌, arith, mod-eq_of_lt}
use Rattle.std.proofs.lemmas.Nat.{pow_pos, pow-add, shr-shr, shr_split, shr_high, div-mul-add, mod_below}
use Rattle.node_key.specs.Key.{number}
use Rattle.node_key.specs.Place.{floor}
use Rattle.node_key.proofs.Floor.{covered}

-- the bits above are kept
floor_sum : (high low w whole count : ℕ) → whole ≡ count * 2 ^ w → floor w (high * whole + low) ≡ high * whole + floor w low
floor_sum high low w whole count whole_is =
    let split = shr_split low w in
    let product : high * whole ≡ high * count * 2 ^ w = let f = ap (λ z. high * z) whole_is in omega arith in
    let sum : (high * count + low / 2 ^ w) * 2 ^ w + low % 2 ^ w ≡ high * whole + low = omega arith in
    let quotient : (high * whole + low) / 2 ^ w ≡ high * count + low / 2 ^ w = sym (ap (λ z. z / 2 ^ w) sum) ∙ div-mul-add (high * count + low / 2 ^ w) (2 ^ w) (low % 2 ^ w) (mod_below low (2 ^ w) (pow_pos w)) in
    ap (λ q. q * 2 ^ w) quotient ∙ omega arith

-- the word below is cleared
floor_past : (high low k d : ℕ) → low < 2 ^ k → floor (k + d) (high * 2 ^ k + low) ≡ floor d high * 2 ^ k
floor_past high low k d fits =
    let quotient : (high * 2 ^ k + low) / 2 ^ (k + d) ≡ high / 2 ^ d = sym (shr-shr (high * 2 ^ k + low) k d) ∙ ap (λ z. z / 2 ^ d) (shr_high high k low fits) in
    let power : 2 ^ (k + d) ≡ 2 ^ k * 2 ^ d = pow-add 2 k d in
    rw (quotient, power) (omega arith)

-- clearing bits of a word stays within it
pub floor_kept : (word d k : ℕ) → word < 2 ^ k → word / 2 ^ d * 2 ^ d % 2 ^ k ≡ floor d word
floor_kept word d k fits =
    let low : word / 2 ^ d * 2 ^ d ≤ word = let c = covered d word in c.from in
    let below : word / 2 ^ d * 2 ^ d < 2 ^ k = omega arith in
    mod-eq_of_lt below

whole_word : (d : ℕ) → d < 64 → 2 ^ 64 ≡ 2 ^ (64 - d) * 2 ^ d
whole_word d lt = let e : 64 ≡ 64 - d + d = omega arith in ap (λ z. 2 ^ z) e ∙ pow-add 2 (64 - d) d

module _ {now : ℕ} (high middle low w : ℕ) (view : number high middle low ≡ now) where
  pub floor_low : w < 64 → low < 2 ^ 64 → number high middle (low / 2 ^ w * 2 ^ w % 2 ^ 64) ≡ floor w now
  floor_low lt fits =
      ap (λ z. number high middle z) (floor_kept low w 64 fits) ∙ sym (floor_sum (high * 2 ^ 64 + middle) low w (2 ^ 64) (2 ^ (64 - w)) (whole_word w lt)) ∙ ap (floor w) view

  pub floor_middle : 64 ≤ w → w < 128 → middle < 2 ^ 64 → low < 2 ^ 64 → number high (middle / 2 ^ (w - 64) * 2 ^ (w - 64) % 2 ^ 64) 0 ≡ floor w now
  floor_middle ge lt middle_fits low_fits =
      let e : 64 + (w - 64) ≡ w = omega arith in
      let lower : w - 64 < 64 = omega arith in
      let here = floor_past (high * 2 ^ 64 + middle) low 64 (w - 64) low_fits in
      let word = floor_sum high middle (w - 64) (2 ^ 64) (2 ^ (64 - (w - 64))) (whole_word (w - 64) lower) in
      let known : floor (64 + (w - 64)) (number high middle low) ≡ (high * 2 ^ 64 + floor (w - 64) middle) * 2 ^ 64 = here ∙ ap (λ z. z * 2 ^ 64) word in
      let at_w : floor w now ≡ (high * 2 ^ 64 + floor (w - 64) middle) * 2 ^ 64 = sym (ap (floor w) view) ∙ sym (ap (λ z. floor z (number high middle low)) e) ∙ known in
      ap (λ z. number high z 0) (floor_kept middle (w - 64) 64 middle_fits) ∙ omega (arith, at_w)

  pub floor_high : 128 ≤ w → high < 2 ^ 64 → middle < 2 ^ 64 → low < 2 ^ 64 → number (high / 2 ^ (w - 128) * 2 ^ (w - 128) % 2 ^ 64) 0 0 ≡ floor w now
  floor_high ge high_fits middle_fits low_fits =
      let e : 64 + (64 + (w - 128)) ≡ w = omega arith in
      let here = floor_past (high * 2 ^ 64 + middle) low 64 (64 + (w - 128)) low_fits in
      let word = floor_past high middle 64 (w - 128) middle_fits in
      let known : floor (64 + (64 + (w - 128))) (number high middle low) ≡ floor (w - 128) high * 2 ^ 64 * 2 ^ 64 = here ∙ ap (λ z. z * 2 ^ 64) word in
      let at_w : floor w now ≡ floor (w - 128) high * 2 ^ 64 * 2 ^ 64 = sym (ap (floor w) view) ∙ sym (ap (λ z. floor z (number high middle low)) e) ∙ known in
      ap (λ z. number z 0 0) (floor_kept high (w - 128) 64 high_fits) ∙ omega (arith, at_w)
