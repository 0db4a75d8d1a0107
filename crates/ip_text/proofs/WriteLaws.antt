-- What writers do one after another.
use Rattle.std.proofs.Common.{◌≡◌, ◌≤◌, ◌<◌, ◌/◌, ◌%◌, ◌+◌, ◌^◌, ℕ, false, List, [], ◌∷◌, ◌++◌, length, take, sym, ap, ◌∙◌, arith, append_assoc}
use Rattle.std.specs.Prelude.{Result, Ok, Err, OnOk, OnErr}
use Rattle.std.proofs.lemmas.Result.{on_ok_weaker}
use Rattle.std.specs.Fmt.{decimal, digits, digit_glyph}
use Rattle.std.proofs.lemmas.Fmt.{decimal_digit, decimal_step, hex_one_digit}
use Rattle.std.proofs.lemmas.List.{take_at}
use Rattle.ip_text.specs.Extends.{Extends}
use Rattle.ip_text.proofs.HexDigits.{hex_step}

-- one text behind another
pub wrote : (old middle new x y : List ℕ) → middle ≡ old ++ x → new ≡ middle ++ y → new ≡ old ++ (x ++ y)
wrote old middle new x y e f = f ∙ ap (λ l. l ++ y) e ∙ append_assoc old x y

pub longer : (old middle new x : List ℕ) → middle ≡ old ++ x → Extends middle new → Extends old new
longer old middle new x e f = record { more = x ++ f.more; whole = f.whole ∙ ap (λ l. l ++ f.more) e ∙ append_assoc old x f.more }

pub longer_same : (old middle new : List ℕ) → middle ≡ old → Extends middle new → Extends old new
longer_same old middle new e f = record { more = f.more; whole = f.whole ∙ ap (λ l. l ++ f.more) e }

-- what stood there first is still there
pub front_kept : (old new : List ℕ) (n : ℕ) → Extends old new → n ≡ length old → take n new ≡ old
front_kept old new n is e = ap (take n) is.whole ∙ take_at old is.more n (sym e)

-- the same, of a call that may be refused
pub then_wrote : {T E : Type 0} (r : Result T E) (old middle new x y whole : List ℕ) → middle ≡ old ++ x → x ++ y ≡ whole → OnOk r (new ≡ middle ++ y) → OnOk r (new ≡ old ++ whole)
then_wrote r old middle new x y whole e f done = on_ok_weaker r (λ (g : new ≡ middle ++ y). wrote old middle new x y e g ∙ ap (λ l. old ++ l) f) done

pub wrote_same : {T E : Type 0} (r : Result T E) (old new x y : List ℕ) → x ≡ y → OnOk r (new ≡ old ++ x) → OnOk r (new ≡ old ++ y)
wrote_same r old new x y e done = on_ok_weaker r (λ (g : new ≡ old ++ x). g ∙ ap (λ l. old ++ l) e) done

pub decimal_more : (n : ℕ) → 10 ≤ n → n < 2 ^ 32 → decimal (n / 10) ++ (48 + n % 10) ∷ [] ≡ decimal n
decimal_more n le small = sym (decimal_step n le (omega arith))

pub decimal_one : (n : ℕ) → n < 10 → (48 + n) ∷ [] ≡ decimal n
decimal_one n less = sym (decimal_digit n less)

pub hex_more : (n : ℕ) → 16 ≤ n → n < 2 ^ 16 → digits 16 false (n / 16) ++ digit_glyph false (n % 16) ∷ [] ≡ digits 16 false n
hex_more n le small = sym (hex_step n le (omega arith))

pub hex_one : (n : ℕ) → n < 16 → digit_glyph false n ∷ [] ≡ digits 16 false n
hex_one n less = sym (hex_one_digit false n less)

pub refused : {T E P : Type 0} (r : Result T E) → P → OnErr r P
refused (Ok x) p = tt
refused (Err e) p = p
