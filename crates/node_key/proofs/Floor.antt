-- Numbers with their lowest bits cleared.
use Rattle.std.proofs.Common.{◌≡◌, ◌≢◌, ℕ, zero, suc, ◌+◌, ◌-◌, ◌*◌, ◌/◌, ◌%◌, ◌^◌, ◌<◌, ◌≤◌, ◌⊎◌, Bool, true, false, ltb, inl, inr, refl, sym, ap, ◌∙◌, subst, arith}
use Rattle.std.proofs.lemmas.Bool.{ltb-true, ltb-false}
use Rattle.std.proofs.lemmas.Nat.{pow_pos, pow-add, shl-shr, shr-shr, shr_split, pow_below, div-mul-add, div-add-mod', mod_below, mul-le}
use Rattle.node_key.specs.Place.{floor, Covers, Encloses, IsFork, IsBracket}

-- the number is in the place that clearing its bits gives
pub covered : (w n : ℕ) → Covers (floor w n) w n
covered w n =
    let whole = shr_split n w in
    let below = mod_below n (2 ^ w) (pow_pos w) in
    record { from = omega arith; to = omega arith }

-- and in no other
pub floor_of : (w low n : ℕ) → floor w low ≡ low → Covers low w n → floor w n ≡ low
floor_of w low n aligned covers =
    let from : low ≤ n = covers.from in
    let to : n < low + 2 ^ w = covers.to in
    let rest : n - low < 2 ^ w = omega arith in
    let whole : low / 2 ^ w * 2 ^ w + (n - low) ≡ n = omega arith in
    let quotient : n / 2 ^ w ≡ low / 2 ^ w = sym (ap (λ m. m / 2 ^ w) whole) ∙ div-mul-add (low / 2 ^ w) (2 ^ w) (n - low) rest in
    ap (λ q. q * 2 ^ w) quotient ∙ aligned

pub floor_aligned : (w n : ℕ) → floor w (floor w n) ≡ floor w n
floor_aligned w n = ap (λ q. q * 2 ^ w) (shl-shr (n / 2 ^ w) w)

nest_numbers : (x q U D : ℕ) → q * D ≤ x → x + 1 ≤ q * D + D → (q * (U * D) ≤ x * U) × (x * U + U ≤ q * (U * D) + U * D)
nest_numbers x q U D low high =
    let a : q * D * U ≤ x * U = mul-le (q * D) U x U low (omega arith) in
    let b : (x + 1) * U ≤ (q * D + D) * U = mul-le (x + 1) U (q * D + D) U high (omega arith) in
    (omega arith, omega arith)

nests_more : (n u d : ℕ) → (floor (u + d) n ≤ floor u n) × (floor u n + 2 ^ u ≤ floor (u + d) n + 2 ^ (u + d))
nests_more n u d =
    let quotient : n / 2 ^ (u + d) ≡ n / 2 ^ u / 2 ^ d = sym (shr-shr n u d) in
    let power : 2 ^ (u + d) ≡ 2 ^ u * 2 ^ d = pow-add 2 u d in
    let whole = div-add-mod' (n / 2 ^ u) (2 ^ d) in
    let below = mod_below (n / 2 ^ u) (2 ^ d) (pow_pos d) in
    rw (quotient, power) (nest_numbers (n / 2 ^ u) (n / 2 ^ u / 2 ^ d) (2 ^ u) (2 ^ d) (omega arith) (omega arith))

-- a narrower place of a number lies in a wider one
pub floor_nests : (n u v : ℕ) → u ≤ v → (floor v n ≤ floor u n) × (floor u n + 2 ^ u ≤ floor v n + 2 ^ v)
floor_nests n u v le =
    let P : ℕ → Type 0 = λ w. (floor w n ≤ floor u n) × (floor u n + 2 ^ u ≤ floor w n + 2 ^ w) in
    let e : u + (v - u) ≡ v = omega arith in
    subst P e (nests_more n u (v - u))

-- what is aligned at a width is so at each narrower one
pub aligned_below : (low u v : ℕ) → u ≤ v → floor v low ≡ low → floor u low ≡ low
aligned_below low u v le aligned =
    let nests = floor_nests low u v le in
    let here = covered u low in
    let from : floor u low ≤ low = here.from in
    omega arith

bit : (r : ℕ) → r < 2 → (r ≡ 0) ⊎ (r ≡ 1)
bit zero h = inl refl
bit (suc zero) h = inr refl
bit (suc (suc r)) h = absurd (omega arith)

even_or_odd : (x h : ℕ) → (x * h ≡ x / 2 * (2 * h)) ⊎ (x * h ≡ x / 2 * (2 * h) + h)
even_or_odd x h =
    let whole = div-add-mod' x 2 in
    elim (bit (x % 2) (mod_below x 2 (omega arith))) [
      | inl even ↦ let e : x ≡ x / 2 * 2 = omega arith in inl (let f = ap (λ m. m * h) e in omega arith)
      | inr odd ↦ let e : x ≡ x / 2 * 2 + 1 = omega arith in inr (let f = ap (λ m. m * h) e in omega arith)
    ]

floor_more : (w n : ℕ) → floor (w + 1) n ≡ n / 2 ^ w / 2 * (2 * 2 ^ w)
floor_more w n =
    let quotient : n / 2 ^ (w + 1) ≡ n / 2 ^ w / 2 ^ 1 = sym (shr-shr n w 1) in
    let power : 2 ^ (w + 1) ≡ 2 ^ w * 2 ^ 1 = pow-add 2 w 1 in
    rw (quotient, power) (omega arith)

-- the two halves of the smallest place with both numbers
pub halves : (w k a : ℕ) → floor w k ≢ floor w a → floor (w + 1) k ≡ floor (w + 1) a → ((floor w a ≡ floor (w + 1) k) × (floor w k ≡ floor (w + 1) k + 2 ^ w)) ⊎ ((floor w k ≡ floor (w + 1) k) × (floor w a ≡ floor (w + 1) k + 2 ^ w))
halves w k a differ same =
    let k_more = floor_more w k in
    let a_more = floor_more w a in
    elim (even_or_odd (k / 2 ^ w) (2 ^ w)) [
      | inl k_left ↦ elim (even_or_odd (a / 2 ^ w) (2 ^ w)) [
        | inl a_left ↦ absurd (differ (k_left ∙ sym k_more ∙ same ∙ a_more ∙ sym a_left))
        | inr a_right ↦ inr (k_left ∙ sym k_more, a_right ∙ ap (λ z. z + 2 ^ w) (sym a_more ∙ sym same))
      ]
      | inr k_right ↦ elim (even_or_odd (a / 2 ^ w) (2 ^ w)) [
        | inl a_left ↦ inl (a_left ∙ sym a_more ∙ sym same, k_right ∙ ap (λ z. z + 2 ^ w) (sym k_more))
        | inr a_right ↦ absurd (differ (k_right ∙ ap (λ z. z + 2 ^ w) (sym k_more ∙ same ∙ a_more) ∙ sym a_right))
      ]
    ]

-- where a place and the key part
module _ {at wide key top w : ℕ} (aligned : floor wide at ≡ at) (bracket : IsBracket at key w (w + 1)) (from : wide ≤ w) (to : w + 1 ≤ top) where
  at_within : Encloses (floor w at) w at wide
  at_within =
      let nests = floor_nests at wide w from in
      let here = covered w at in
      let low : floor w at ≤ at = here.from in
      record { from_low = low; to_end = omega arith; narrower = from }

  fork_at : (split : ℕ) → split ≡ floor (w + 1) key + 2 ^ w → (key < at → (key < split) × Encloses split w at wide) → (at ≤ key → (split ≤ key) × Encloses (floor (w + 1) key) w at wide) → IsFork at wide key top (floor (w + 1) key) split (w + 1)
  fork_at split split_is before after =
      let e : w + 1 - 1 ≡ w = omega arith in
      let nests = floor_nests key (w + 1) top to in
      record {
        positive = omega arith;
        aligned = floor_aligned (w + 1) key;
        halves = rw e split_is;
        covers = covered (w + 1) key;
        within = record { from_low = nests.0; to_end = nests.1; narrower = to };
        before = rw e before;
        after = rw e after;
      }

  parted : (((floor w at ≡ floor (w + 1) key) × (floor w key ≡ floor (w + 1) key + 2 ^ w)) → key < at → ⊥) × (((floor w key ≡ floor (w + 1) key) × (floor w at ≡ floor (w + 1) key + 2 ^ w)) → at ≤ key → ⊥)
  parted =
      let of_at = covered w at in
      let at_from : floor w at ≤ at = of_at.from in
      let at_to : at < floor w at + 2 ^ w = of_at.to in
      let of_key = covered w key in
      let key_from : floor w key ≤ key = of_key.from in
      let key_to : key < floor w key + 2 ^ w = of_key.to in
      (λ h lt. omega (arith, h.0, h.1), λ h le. omega (arith, h.0, h.1))

  key_first : key < at → IsFork at wide key top (floor (w + 1) key) (floor w at) (w + 1)
  key_first lt = elim (halves w key at bracket.differ bracket.same) [
    | inl h ↦ absurd (parted.0 h lt)
    | inr h ↦
        let of_key = covered w key in
        let key_to : key < floor w key + 2 ^ w = of_key.to in
        fork_at (floor w at) h.1 (λ _. (omega (arith, h.0, h.1), at_within)) (λ le. absurd (omega arith))
  ]

  key_last : at ≤ key → IsFork at wide key top (floor (w + 1) key) (floor w key) (w + 1)
  key_last le = elim (halves w key at bracket.differ bracket.same) [
    | inl h ↦
        let of_key = covered w key in
        fork_at (floor w key) h.1 (λ lt. absurd (omega arith)) (λ _. (of_key.from, subst (λ z. Encloses z w at wide) h.0 at_within))
    | inr h ↦ absurd (parted.1 h le)
  ]

-- the same, as the code has it
module _ {at wide key top below above : ℕ} (aligned : floor wide at ≡ at) (bracket : IsBracket at key below above) (from : wide ≤ below) (to : above ≤ top) (close : above - below ≤ 1) where
  next : below + 1 ≡ above
  next = let lt : below < above = bracket.ordered in omega arith

  pub fork_before : {low split : ℕ} {test : Bool} → test ≡ ltb key at → test ≡ true → low ≡ floor above key → split ≡ floor below at → IsFork at wide key top low split above
  fork_before {low} {split} {test} test_is holds low_is split_is =
      let lt : key < at = ltb-true key at (sym test_is ∙ holds) in
      let here = key_first aligned (subst (IsBracket at key below) (sym next) bracket) from (subst (λ z. z ≤ top) (sym next) to) lt in
      rw (low_is, split_is) (subst (λ z. IsFork at wide key top (floor z key) (floor below at) z) next here)

  pub fork_after : {low split : ℕ} {test : Bool} → test ≡ ltb key at → test ≡ false → low ≡ floor above key → split ≡ floor below key → IsFork at wide key top low split above
  fork_after {low} {split} {test} test_is fails low_is split_is =
      let le : at ≤ key = ltb-false key at (sym test_is ∙ fails) in
      let here = key_last aligned (subst (IsBracket at key below) (sym next) bracket) from (subst (λ z. z ≤ top) (sym next) to) le in
      rw (low_is, split_is) (subst (λ z. IsFork at wide key top (floor z key) (floor below key) z) next here)

below_top : (wide top at key : ℕ) (b : Bool) → ltb wide top ≡ b → wide ≤ top → floor wide at ≡ at → floor wide key ≢ at → floor top at ≡ floor top key → wide < top
below_top wide top at key true test le aligned outside same = ltb-true wide top test
below_top wide top at key false test le aligned outside same =
    let e : top ≡ wide = omega (arith, ltb-false wide top test) in
    absurd (outside (sym (subst (λ z. floor z at ≡ floor z key) e same) ∙ aligned))

-- the bracket that the search begins with
pub first_bracket : {at wide key top : ℕ} → floor wide at ≡ at → Encloses (floor top key) top at wide → floor wide key ≢ at → IsBracket at key wide top
first_bracket {at} {wide} {key} {top} aligned under outside =
    let from : floor top key ≤ at = under.from_low in
    let to : at + 2 ^ wide ≤ floor top key + 2 ^ top = under.to_end in
    let pos = pow_pos wide in
    let same : floor top at ≡ floor top key = floor_of top (floor top key) at (floor_aligned top key) (record { from = from; to = omega arith }) in
    record {
      ordered = below_top wide top at key (ltb wide top) refl under.narrower aligned outside same;
      differ = λ e. outside (e ∙ aligned);
      same = sym same;
    }

-- every key's place of 192 bits begins at 0
pub floor_all : (n : ℕ) → n < 2 ^ 192 → floor 192 n ≡ 0
floor_all n lt = floor_of 192 0 n refl (record { from = omega arith; to = omega arith })

-- the lower end of a fork is its split's place
low_of_split : {at wide key top low split width : ℕ} → IsFork at wide key top low split width → floor width split ≡ low
low_of_split {at} {wide} {key} {top} {low} {split} {width} f =
    let positive : 0 < width = f.positive in
    let halves : split ≡ low + 2 ^ (width - 1) = f.halves in
    floor_of width low split f.aligned (record { from = omega arith; to = omega (arith, pow_below (width - 1) width (omega arith)) })

pub fork_by_split : {at wide key top low split width : ℕ} → IsFork at wide key top low split width → IsFork at wide key top (floor width split) split width
fork_by_split {at} {wide} {key} {top} {low} {split} {width} f = subst (λ z. IsFork at wide key top z split width) (sym (low_of_split f)) f
