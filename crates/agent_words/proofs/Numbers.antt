-- A word without a sign or a leading zero that std reads as a number is that number's decimal text.
use Rattle.std.proofs.Common.{◌≡◌, ◌≢◌, ◌<◌, ◌≤◌, ◌^◌, ℕ, Bool, List, [], ◌∷◌, length, get_or, true, false, Result, Ok, Err, Option, Some, None, SomeIff, MatchOption, true≢false, refl, sym, ap, ◌∙◌, subst, inl, inr, arith}
use Rattle.std.specs.Fmt.{decimal}
use Rattle.std.specs.Str.Parse.{AllDigits, IsNumeral, digits_value, without_leading_plus}
use Rattle.std.proofs.lemmas.Str.Parse.{IsNumeralModel, numerals_by_value, tells_digits, without_leading_plus_none}
use Rattle.std.proofs.lemmas.Fmt.{decimal-digits_value, first_decimal, decimal_digit, decimal_injective}
use Rattle.std.proofs.lemmas.Bool.{cases_eq}
use Rattle.agent_words.specs.Words.{is_padded}

own : IsNumeralModel (AllDigits 10) (digits_value 10)
own = numerals_by_value (AllDigits 10) tells_digits

no_plus : (bs : List ℕ) → is_padded bs ≡ false → get_or bs 0 0 ≢ 43
no_plus [] e = λ h. absurd (omega arith)
no_plus (d ∷ []) e = λ h. grind (arith, e, h)
no_plus (d ∷ x ∷ ds) e = λ h. grind (arith, e, h)

no_zero : (bs : List ℕ) → is_padded bs ≡ false → 0 < length bs → get_or bs 0 0 ≡ 48 → length bs ≡ 1
no_zero [] e some h = absurd (omega arith)
no_zero (d ∷ []) e some h = refl
no_zero (d ∷ x ∷ ds) e some h = grind (arith, e, h)

-- what is read spells the number
pub parsed_decimal : (bs : List ℕ) (n : ℕ) → is_padded bs ≡ false
    → (IsNumeral 10 (without_leading_plus bs) × (digits_value 10 (without_leading_plus bs) < 2 ^ 64)) × (n ≡ digits_value 10 (without_leading_plus bs)) → bs ≡ decimal n
parsed_decimal bs n plain h =
    let same = without_leading_plus_none bs (no_plus bs plain) in
    let numeral : IsNumeral 10 bs = subst (λ (l : List ℕ). IsNumeral 10 l) same h.0.0 in
    let small : digits_value 10 bs < 2 ^ 64 = subst (λ (l : List ℕ). digits_value 10 l < 2 ^ 64) same h.0.1 in
    let value : n ≡ digits_value 10 bs = h.1 ∙ ap (digits_value 10) same in
    sym (ap decimal value ∙ decimal-digits_value own bs numeral.1 numeral.0 (no_zero bs plain numeral.0) small)

padded_first : (bs : List ℕ) → 48 < get_or bs 0 0 → is_padded bs ≡ false
padded_first [] h = absurd (omega arith)
padded_first (d ∷ []) h = grind (arith, h)
padded_first (d ∷ x ∷ ds) h = grind (arith, h)

-- a number's decimal text has no sign and no leading zero
pub decimal_plain : (n : ℕ) → n < 2 ^ 64 → is_padded (decimal n) ≡ false
decimal_plain n small = elim (cases_eq n 0) [
  | inl zero ↦ ap (λ k. is_padded (decimal k)) zero ∙ ap is_padded (decimal_digit 0 (omega arith))
  | inr some ↦ padded_first (decimal n) (first_decimal n (omega arith) small)
]

-- a number that was read is the one that the word spells, where it lies in the range
pub number_from : (word : List ℕ) (low high m : ℕ) (result : Option ℕ) → word ≡ decimal m → m < 2 ^ 64 → high < 2 ^ 64 → SomeIff result ((low ≤ m) × (m ≤ high)) m
    → MatchOption result ((n : ℕ) → low ≤ n → n ≤ high → word ≡ decimal n → ⊥) (λ n. (word ≡ decimal n) × (low ≤ n) × (n ≤ high))
number_from word low high m (Some x) is fits small h = (is ∙ ap decimal (sym h.1), omega (arith, h.0.0, h.1), omega (arith, h.0.1, h.1))
number_from word low high m None is fits small h = λ n p q s.
    let same : n ≡ m = decimal_injective n m (omega arith) fits (sym s ∙ is) in
    absurd (h (omega (arith, p, same), omega (arith, q, same)))

is_ok : {E : Type 0} → Result ℕ E → Bool
is_ok (Ok x) = true
is_ok (Err e) = false

pub not_both : {E : Type 0} (r : Result ℕ E) (n : ℕ) (e : E) → r ≡ Ok n → r ≡ Err e → ⊥
unfolding is_ok
not_both r n e p q = true≢false (sym (ap is_ok p) ∙ ap is_ok q)
