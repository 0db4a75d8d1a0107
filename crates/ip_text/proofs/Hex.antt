-- Hexadecimal digits, one byte at a time.
use Rattle.std.proofs.Common.{◌≡◌, ◌≤◌, ◌<◌, ◌+◌, ◌-◌, ◌*◌, ℕ, suc, zero, List, [], ◌∷◌, length, Option, Some, None, true, refl, sym, ap, subst, ◌∙◌, inl, inr, ◌⊎◌, arith}
use Rattle.std.proofs.lemmas.Bool.{and_parts, and_from}
use Rattle.ip_text.specs.Place.{CanBegin}
use Rattle.ip_text.specs.Scans.{Scans}
use Rattle.ip_text.specs.Numerals.{is_hex, hex, all_hex, hex_on, IsHex}
use Rattle.ip_text.specs.Unread.{IsHexOn}
use Rattle.ip_text.proofs.ScanLaws.{behinds, scans_is}

zeros : ℕ → List ℕ
zeros zero = []
zeros (suc n) = 48 ∷ zeros n

zeros_length : (n : ℕ) → length (zeros n) ≡ n
unfolding zeros
zeros_length zero = refl
zeros_length (suc n) = omega (arith, zeros_length n)

zeros_hex : (n : ℕ) → all_hex (zeros n) ≡ true
unfolding zeros
zeros_hex zero = refl
zeros_hex (suc n) = zeros_hex n

on_begins : (low high before : ℕ) → low ≤ high → CanBegin (IsHexOn low high before) []
on_begins low high before le = record {
  value = hex_on before (zeros low);
  rest = zeros low;
  spelled = record { enough = omega (arith, zeros_length low); short = omega (arith, zeros_length low); digits = zeros_hex low; spelled = refl };
}

-- a digit
pub hex_step : (low high count before b d : ℕ) (bytes more rest : List ℕ) (v : Option ℕ) → count < high → is_hex b ≡ true → d ≡ hex b → bytes ≡ b ∷ more → Scans (IsHexOn (low - (count + 1)) (high - (count + 1)) (16 * before + d)) more v rest → Scans (IsHexOn (low - count) (high - count) before) bytes v rest
hex_step low high count before b d bytes more rest v some digit is_d split scans =
    subst (λ (l : List ℕ). Scans (IsHexOn (low - count) (high - count) before) l v rest) (sym split)
    (behinds b
    (λ a t is. record { enough = omega (arith, is.enough); short = omega (arith, is.short); digits = and_from _ _ digit is.digits; spelled = is.spelled ∙ ap (λ n. hex_on (16 * before + n) t) is_d })
    (λ a t is. record { enough = omega (arith, is.enough); short = omega (arith, is.short); digits = (and_parts _ _ is.digits).1; spelled = is.spelled ∙ ap (λ n. hex_on (16 * before + n) t) (sym is_d) })
    scans)

-- no more digits
pub hex_stop : (low high before : ℕ) (rest : List ℕ) (v : Option ℕ) → low ≤ high → ((b : ℕ) (more : List ℕ) → rest ≡ b ∷ more → 0 < high → is_hex b ≡ true → ⊥) → ((low ≡ 0) × (v ≡ Some before)) ⊎ ((0 < low) × (v ≡ None)) → Scans (IsHexOn low high before) rest v rest
hex_stop low high before rest v le stops which = record {
  front = [];
  split = refl;
  scan = record {
    begins = on_begins low high before le;
    longest = λ b more e can. let is = can.spelled in stops b more e (omega (arith, is.short)) (and_parts _ _ is.digits).0;
    found = λ a e. elim which [
      | inl none ↦ let same : Some before ≡ Some a = sym none.1 ∙ e in let is : a ≡ before = cc in record { enough = omega (arith, none.0); short = omega arith; digits = refl; spelled = is }
      | inr some ↦ absurd (cc (some.1, e))
    ];
    only = λ a is. elim which [
      | inl none ↦ none.1 ∙ ap Some (sym is.spelled)
      | inr some ↦ absurd (omega (arith, some.0, is.enough))
    ];
  };
}

pub hex_begins : (low high : ℕ) → low ≤ high → CanBegin (IsHex low high) []
hex_begins low high le =
    let on = on_begins low high 0 le in
    record { value = on.value; rest = on.rest; spelled = record { enough = on.spelled.enough; short = on.spelled.short; digits = on.spelled.digits; spelled = on.spelled.spelled } }

-- digits behind none
pub hex_start : (low high : ℕ) (bytes rest : List ℕ) (v : Option ℕ) → Scans (IsHexOn (low - 0) (high - 0) 0) bytes v rest → Scans (IsHex low high) bytes v rest
hex_start low high bytes rest v scans = scans_is
    (λ a t is. record { enough = omega (arith, is.enough); short = omega (arith, is.short); digits = is.digits; spelled = is.spelled })
    (λ a t is. record { enough = omega (arith, is.enough); short = omega (arith, is.short); digits = is.digits; spelled = is.spelled })
    scans

pub hex_end : (low high count before : ℕ) (bytes rest : List ℕ) (v : Option ℕ) → low ≤ high → ((value : Option ℕ) (more : List ℕ) → Scans (IsHexOn (low - count) (high - count) before) rest value more → Scans (IsHex low high) bytes value more) →
    ((b : ℕ) (more : List ℕ) → rest ≡ b ∷ more → count < high → is_hex b ≡ true → ⊥) → ((low ≤ count) × (v ≡ Some before)) ⊎ ((count < low) × (v ≡ None)) → Scans (IsHex low high) bytes v rest
hex_end low high count before bytes rest v le back stops which =
    back v rest (hex_stop (low - count) (high - count) before rest v (omega arith) (λ b more e some digit. stops b more e (omega arith) digit) (elim which [ inl none ↦ inl (omega arith, none.1) | inr some ↦ inr (omega arith, some.1) ]))
