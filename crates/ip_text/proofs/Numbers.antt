-- Numbers, one digit at a time.
use Rattle.std.proofs.Common.{◌≡◌, ◌<◌, ◌≤◌, ◌^◌, ◌+◌, ◌-◌, ◌*◌, ℕ, List, [], ◌∷◌, length, get_or, Option, Some, None, Bool, true, false, ◌&&◌, nat_lt, refl, sym, ap, subst, ◌∙◌, inl, inr, arith, rules, ◌⊎◌}
use Rattle.std.specs.Char.{is_ascii_digit}
use Rattle.std.specs.Str.{all_ascii_digits}
use Rattle.std.specs.Fmt.{decimal}
use Rattle.std.proofs.lemmas.Str.Parse.{IsNumeralModel, numerals_by_fold}
use Rattle.std.proofs.lemmas.Fmt.{digits_decimal, digits_value-decimal, decimal-digits_value, decimal_nonempty, first_decimal, decimal_digit}
use Rattle.std.proofs.lemmas.Bool.{cases_eq, and_parts, and_from, lt-ltb, ltb-true, false≢true}
use Rattle.std.proofs.lemmas.Bool.Decides.{nat_tests}
use Rattle.ip_text.specs.Place.{CanBegin}
use Rattle.ip_text.specs.Scans.{Scans}
use Rattle.ip_text.specs.Numerals.{IsNumber}
use Rattle.ip_text.proofs.ScanLaws.{behinds, Lacks}

abbrev pub read_on : ℕ → List ℕ → ℕ
read_on n [] = n
read_on n (c ∷ cs) = read_on (10 * n + (c - 48)) cs

-- digits, the first of several not zero
abbrev pub is_numeral : List ℕ → Bool
is_numeral [] = false
is_numeral (d ∷ []) = is_ascii_digit d
is_numeral (d ∷ e ∷ ds) = nat_lt 48 d && all_ascii_digits (d ∷ e ∷ ds)

pub own : IsNumeralModel (λ ds. all_ascii_digits ds ≡ true) (read_on 0)
own = numerals_by_fold _ (search rules) read_on (search rules)

record Plain (word : List ℕ) : Type 0 where
  digits : all_ascii_digits word ≡ true
  some : 0 < length word
  first : get_or word 0 0 ≡ 48 → length word ≡ 1

plain : (word : List ℕ) → is_numeral word ≡ true → Plain word
plain [] is = absurd cc
plain (d ∷ []) is = record { digits = and_from _ _ is refl; some = omega arith; first = λ _. refl }
plain (d ∷ e ∷ ds) is =
    let parts : (nat_lt 48 d ≡ true) × (all_ascii_digits (d ∷ e ∷ ds) ≡ true) = and_parts _ _ is in
    record { digits = parts.1; some = omega arith; first = λ zero. absurd (omega (arith, ltb-true 48 d parts.0)) }

numeral : (word : List ℕ) → all_ascii_digits word ≡ true → 0 < length word → 48 < get_or word 0 0 → is_numeral word ≡ true
numeral [] all some first = absurd (omega arith)
numeral (d ∷ []) all some first = (and_parts _ _ all).0
numeral (d ∷ e ∷ ds) all some first = and_from _ _ (lt-ltb 48 d first) all

pub numeral_is : (word : List ℕ) → is_numeral word ≡ true → read_on 0 word < 2 ^ 64 → word ≡ decimal (read_on 0 word)
numeral_is word is small = let p = plain word is in sym (decimal-digits_value own word p.digits p.some p.first small)

pub decimal_digits : (n : ℕ) → n < 2 ^ 64 → all_ascii_digits (decimal n) ≡ true
decimal_digits n small = digits_decimal own n small

pub decimal_value : (n : ℕ) → n < 2 ^ 64 → read_on 0 (decimal n) ≡ n
decimal_value n small = digits_value-decimal own n small

pub decimal_is : (n : ℕ) → n < 2 ^ 64 → is_numeral (decimal n) ≡ true
decimal_is n small = elim (cases_eq n 0) [
  | inl zero ↦ ap (λ k. is_numeral (decimal k)) zero ∙ ap is_numeral (decimal_digit 0 (omega arith))
  | inr some ↦ numeral (decimal n) (decimal_digits n small) (decimal_nonempty n small) (first_decimal n (omega arith) small)
]

pub read_on_grows : (n : ℕ) (ds : List ℕ) → n ≤ read_on n ds
read_on_grows n [] = omega arith
read_on_grows n (d ∷ ds) = omega (arith, read_on_grows (10 * n + (d - 48)) ds)

-- what follows the first digits, whose value stands before
pub record IsTail (high before value : ℕ) (text : List ℕ) : Type 0 where
  pub within : value ≤ high
  pub digits : all_ascii_digits text ≡ true
  pub spelled : value ≡ read_on before text

-- the first digit, which is not zero
pub number_first : (low high b d : ℕ) (bytes more rest : List ℕ) (v : Option ℕ) → low ≤ 1 → high < 2 ^ 59 → is_ascii_digit b ≡ true → b ≡ 48 + d → 0 < d → bytes ≡ b ∷ more → Scans (IsTail high d) more v rest → Scans (IsNumber low high) bytes v rest
number_first low high b d bytes more rest v few small digit is_d some split scans =
    subst (λ (l : List ℕ). Scans (IsNumber low high) l v rest) (sym split)
    (behinds b
    (λ a t is.
    let value : a ≡ read_on 0 (b ∷ t) = is.spelled ∙ ap (λ n. read_on n t) (omega arith) in
    record { enough = omega (arith, is.spelled, read_on_grows d t); within = is.within; spelled = numeral_is (b ∷ t) (numeral (b ∷ t) (and_from _ _ digit is.digits) (omega arith) (omega arith)) (omega (arith, is.within)) ∙ ap decimal (sym value) })
    (λ a t is.
    let fits : a < 2 ^ 64 = omega (arith, is.within) in
    let value : a ≡ read_on 0 (b ∷ t) = sym (decimal_value a fits) ∙ ap (read_on 0) (sym is.spelled) in
    record { within = is.within; digits = (and_parts (is_ascii_digit b) _ (ap all_ascii_digits is.spelled ∙ decimal_digits a fits)).1; spelled = value ∙ ap (λ n. read_on n t) (omega arith) })
    scans)

-- one more digit
pub number_step : (high before b d : ℕ) (bytes more rest : List ℕ) (v : Option ℕ) → is_ascii_digit b ≡ true → b ≡ 48 + d → bytes ≡ b ∷ more → Scans (IsTail high (10 * before + d)) more v rest → Scans (IsTail high before) bytes v rest
number_step high before b d bytes more rest v digit is_d split scans =
    let next : 10 * before + (b - 48) ≡ 10 * before + d = omega arith in
    subst (λ (l : List ℕ). Scans (IsTail high before) l v rest) (sym split)
    (behinds b
    (λ a t is. record { within = is.within; digits = and_from _ _ digit is.digits; spelled = is.spelled ∙ ap (λ n. read_on n t) (sym next) })
    (λ a t is. record { within = is.within; digits = (and_parts (is_ascii_digit b) _ is.digits).1; spelled = is.spelled ∙ ap (λ n. read_on n t) next })
    scans)

-- no more digits, or the number would be too large
pub number_stop : (high before : ℕ) (rest : List ℕ) → before ≤ high → ((b : ℕ) (more : List ℕ) → rest ≡ b ∷ more → is_ascii_digit b ≡ true → 10 * before + (b - 48) ≤ high → ⊥) → Scans (IsTail high before) rest (Some before) rest
number_stop high before rest le stops = record {
  front = [];
  split = refl;
  scan = record {
    begins = record { value = before; rest = []; spelled = record { within = le; digits = refl; spelled = refl } };
    longest = λ b more e can. let is = can.spelled in stops b more e (and_parts (is_ascii_digit b) _ is.digits).0 (omega (arith, is.within, is.spelled, read_on_grows (10 * before + (b - 48)) can.rest));
    found = λ a e. let same : a ≡ before = cc in record { within = omega arith; digits = refl; spelled = same };
    only = λ a is. ap Some (sym is.spelled);
  };
}

one_digit : (low high n : ℕ) → low ≤ n → n < 10 → n ≤ high → IsNumber low high n ((48 + n) ∷ [])
one_digit low high n le small within = record { enough = le; within = within; spelled = sym (decimal_digit n small) }

-- zero, which no digit follows
pub number_zero : (low high b : ℕ) (bytes more : List ℕ) → low ≤ 0 → high < 2 ^ 59 → b ≡ 48 → bytes ≡ b ∷ more → Scans (IsNumber low high) bytes (Some 0) more
number_zero low high b bytes more none small zero split = record {
  front = 48 ∷ [];
  split = split ∙ ap (λ (n : ℕ). n ∷ more) zero;
  scan = record {
    begins = record { value = 0; rest = []; spelled = one_digit low high 0 none (omega arith) (omega arith) };
    longest = λ c next e can. false≢true (ap is_numeral can.spelled.spelled ∙ decimal_is can.value (omega (arith, can.spelled.within)));
    found = λ a e. let same : 0 ≡ a = cc in subst (λ (n : ℕ). IsNumber low high n (48 ∷ [])) same (one_digit low high 0 none (omega arith) (omega arith));
    only = λ a is. ap Some (ap (read_on 0) is.spelled ∙ decimal_value a (omega (arith, is.within)));
  };
}

number_head : (b : ℕ) (t : List ℕ) → is_numeral (b ∷ t) ≡ true → is_ascii_digit b ≡ true
number_head b [] is = is
number_head b (c ∷ cs) is = (and_parts (is_ascii_digit b) _ (and_parts _ (all_ascii_digits (b ∷ c ∷ cs)) is).1).0

pub number_begins : (low high : ℕ) → low ≤ 1 → 9 ≤ high → CanBegin (IsNumber low high) []
number_begins low high few some = record { value = 1; rest = 49 ∷ []; spelled = one_digit low high 1 few (omega arith) (omega arith) }

-- the first digit of a number of at least low
number_above : (low n b : ℕ) (rest : List ℕ) → low ≤ 1 → low ≤ n → n < 2 ^ 64 → b ∷ rest ≡ decimal n → low + 48 ≤ b
number_above low n b rest few le small e = elim (cases_eq n 0) [
  | inl zero ↦
      let same : b ∷ rest ≡ 48 ∷ [] = e ∙ ap decimal zero ∙ decimal_digit 0 (omega arith) in
      let heads : b ≡ 48 = cc in
      omega arith
  | inr some ↦
      let first = first_decimal n (omega arith) small in
      let heads : b ≡ get_or (decimal n) 0 0 = ap (λ (l : List ℕ). get_or l 0 0) e in
      omega (arith, first, heads)
]

-- no digit that a number begins with
pub number_none : (low high : ℕ) (rest : List ℕ) → low ≤ 1 → 9 ≤ high → high < 2 ^ 59 → ((b : ℕ) (more : List ℕ) → rest ≡ b ∷ more → is_ascii_digit b ≡ true → low + 48 ≤ b → ⊥) → Scans (IsNumber low high) rest None rest
number_none low high rest few some small stops = record {
  front = [];
  split = refl;
  scan = record {
    begins = number_begins low high few some;
    longest = λ b more e can.
        let is = can.spelled in
        let fits : can.value < 2 ^ 64 = omega (arith, is.within) in
        stops b more e (number_head b can.rest (ap is_numeral is.spelled ∙ decimal_is can.value fits)) (number_above low can.value b can.rest few is.enough fits is.spelled);
    found = λ a e. absurd cc;
    only = λ a is. absurd (false≢true (ap is_numeral is.spelled ∙ decimal_is a (omega (arith, is.within))));
  };
}

no_digit_there : (b end : ℕ) → b ≡ end → is_ascii_digit b ≡ true → (end < 48) ⊎ (57 < end) → ⊥
no_digit_there b end same digit (inl low) = grind (arith, nat_tests)
no_digit_there b end same digit (inr high) = grind (arith, nat_tests)

digits_lack : (end : ℕ) (word : List ℕ) → (end < 48) ⊎ (57 < end) → all_ascii_digits word ≡ true → Lacks end word
digits_lack end [] low all = tt
digits_lack end (b ∷ bs) low all =
    let parts = and_parts (is_ascii_digit b) (all_ascii_digits bs) all in
    (λ same. no_digit_there b end same parts.0 low, digits_lack end bs low parts.1)

pub number_lacks : (low high end v : ℕ) (text : List ℕ) → high < 2 ^ 59 → (end < 48) ⊎ (57 < end) → IsNumber low high v text → Lacks end text
number_lacks low high end v text small outside is = subst (λ (t : List ℕ). Lacks end t) (sym is.spelled) (digits_lack end (decimal v) outside (decimal_digits v (omega (arith, is.within))))

pub no_byte : (rest more : List ℕ) (b : ℕ) → rest ≡ [] → rest ≡ b ∷ more → ⊥
no_byte rest more b none some = cc (none, some)

pub no_digit : (rest others more : List ℕ) (c b : ℕ) → rest ≡ c ∷ others → is_ascii_digit c ≡ false → rest ≡ b ∷ more → is_ascii_digit b ≡ true → ⊥
no_digit rest others more c b here other there is = let heads : c ≡ b = cc (here, there) in false≢true (sym other ∙ ap is_ascii_digit heads ∙ is)

pub too_small : (low d : ℕ) (rest others more : List ℕ) (c b : ℕ) → rest ≡ c ∷ others → c ≡ 48 + d → d < low → rest ≡ b ∷ more → low + 48 ≤ b → ⊥
too_small low d rest others more c b here is_d less there le = let heads : c ≡ b = cc (here, there) in omega arith

pub too_large : (high before d : ℕ) (rest others more : List ℕ) (c b : ℕ) → rest ≡ c ∷ others → c ≡ 48 + d → high < 10 * before + d → rest ≡ b ∷ more → 10 * before + (b - 48) ≤ high → ⊥
too_large high before d rest others more c b here is_d large there small = let heads : c ≡ b = cc (here, there) in omega arith
