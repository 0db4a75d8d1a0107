-- A word is a numeral just where it is the decimal text of its value.
use Rattle.std.proofs.Common.{◌≡◌, ◌<◌, ◌^◌, ℕ, List, [], ◌∷◌, length, get_or, true, refl, sym, ap, ◌∙◌, inl, inr, arith, rules}
use Rattle.std.specs.Str.{all_ascii_digits}
use Rattle.std.specs.Fmt.{decimal}
use Rattle.std.proofs.lemmas.Str.Parse.{IsNumeralModel, numerals_by_fold}
use Rattle.std.proofs.lemmas.Fmt.{digits_decimal, digits_value-decimal, decimal-digits_value, decimal_nonempty, first_decimal, decimal_digit}
use Rattle.std.proofs.lemmas.Bool.{cases_eq, and_parts, and_from, lt-ltb, ltb-true}
use Rattle.script_words.specs.Reading.{read_on, is_numeral}

pub own : IsNumeralModel (λ ds. all_ascii_digits ds ≡ true) (read_on 0)
own = numerals_by_fold _ (search rules) read_on (search rules)

record Plain (word : List ℕ) : Type 0 where
  digits : all_ascii_digits word ≡ true
  some : 0 < length word
  first : get_or word 0 0 ≡ 48 → length word ≡ 1

plain : (word : List ℕ) → is_numeral word ≡ true → Plain word
plain [] is = absurd cc
plain (d ∷ []) is = record { digits = and_from _ _ is refl; some = omega arith; first = λ _. refl }
plain (d ∷ e ∷ ds) is =
    let parts = and_parts _ _ is in
    record { digits = parts.1; some = omega arith; first = λ zero. absurd (omega (arith, ltb-true 48 d parts.0)) }

numeral : (word : List ℕ) → all_ascii_digits word ≡ true → 0 < length word → 48 < get_or word 0 0 → is_numeral word ≡ true
numeral [] all some first = absurd (omega arith)
numeral (d ∷ []) all some first = (and_parts _ _ all).0
numeral (d ∷ e ∷ ds) all some first = and_from _ _ (lt-ltb 48 d first) all

pub numeral_is : (word : List ℕ) → is_numeral word ≡ true → read_on 0 word < 2 ^ 64 → word ≡ decimal (read_on 0 word)
numeral_is word is small = let p = plain word is in sym (decimal-digits_value own word p.digits p.some p.first small)

pub decimal_digits : (n : ℕ) → n < 2 ^ 64 → all_ascii_digits (decimal n) ≡ true
decimal_digits n small = digits_decimal own n small

pub decimal_value : (n : ℕ) → n < 2 ^ 64 → read_on 0 (decimal n) ≡ n
decimal_value n small = digits_value-decimal own n small

pub decimal_is : (n : ℕ) → n < 2 ^ 64 → is_numeral (decimal n) ≡ true
decimal_is n small = elim (cases_eq n 0) [
  | inl zero ↦ ap (λ k. is_numeral (decimal k)) zero ∙ ap is_numeral (decimal_digit 0 (omega arith))
  | inr some ↦ numeral (decimal n) (decimal_digits n small) (decimal_nonempty n small) (first_decimal n (omega arith) small)
]
