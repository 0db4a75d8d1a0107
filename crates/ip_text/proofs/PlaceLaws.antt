-- The digits of a number in a base are those of the number.
use Rattle.std.proofs.Common.{◌≡◌, ◌<◌, ◌+◌, ◌*◌, ◌/◌, ◌%◌, ◌^◌, ℕ, zero, suc, length, refl, sym, ap, ◌∙◌, arith}
use Rattle.std.specs.List.{AllByRecursion}
use Rattle.std.proofs.Math.Nat.{div-div-eq-div-mul, div-add-mod, div-one, div-eq_of_lt, mod-lt, pow-zero, pow-succ', mul_comm}
use Rattle.ip_text.specs.Numerals.{in_base}
use Rattle.ip_text.specs.Printed.{places}

-- the digits above, and one more
one_more : (base k n : ℕ) → base * (n / base ^ suc k) + n / base ^ k % base ≡ n / base ^ k
one_more base k n =
    let power : base ^ suc k ≡ base ^ k * base = pow-succ' base k ∙ mul_comm base (base ^ k) in
    let above : n / base ^ suc k ≡ n / base ^ k / base = ap (λ m. n / m) power ∙ sym (div-div-eq-div-mul n (base ^ k) base) in
    ap (λ m. base * m + n / base ^ k % base) above ∙ div-add-mod (n / base ^ k) base

-- digits behind those above them
value_on : (base k n : ℕ) → in_base base (n / base ^ k) (places base k n) ≡ n
value_on base zero n = ap (λ m. n / m) (pow-zero base) ∙ div-one n
value_on base (suc k) n = ap (λ m. in_base base m (places base k n)) (one_more base k n) ∙ value_on base k n

pub places_value : (base k n : ℕ) → n < base ^ k → n ≡ in_base base 0 (places base k n)
places_value base k n less = sym (value_on base k n) ∙ ap (λ m. in_base base m (places base k n)) (div-eq_of_lt less)

pub places_length : (base k n : ℕ) → length (places base k n) ≡ k
places_length base zero n = refl
places_length base (suc k) n = omega (arith, places_length base k n)

pub places_below : (base k n : ℕ) → 0 < base → AllByRecursion (λ v. v < base) (places base k n)
places_below base zero n some = tt
places_below base (suc k) n some = (mod-lt (n / base ^ k) some, places_below base k n some)
