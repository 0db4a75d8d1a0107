-- Laws of the functions that read fields.
use Rattle.std.proofs.Common.{◌≡◌, ◌<◌, ◌≤◌, ◌+◌, ◌-◌, ◌*◌, ℕ, List, [], ◌∷◌, length, drop, Bool, true, false, ◌&&◌, get_or, add-one, drop-cons, refl, sym, ap, ◌∙◌, arith}
use Rattle.std.specs.Str.{all_ascii_digits}
use Rattle.script_words.specs.Reading.{read_on}

pub read_on_grows : (n : ℕ) (ds : List ℕ) → n ≤ read_on n ds
read_on_grows n [] = omega arith
read_on_grows n (d ∷ ds) = omega (arith, read_on_grows (10 * n + (d - 48)) ds)

pub and_both : (a b : Bool) → a && b ≡ true → (a ≡ true) × (b ≡ true)
and_both true b e = (refl, e)
and_both false b e = absurd (cc)

step : (w : List ℕ) (i : ℕ) → i < length w → drop i w ≡ get_or w i 0 ∷ drop (i + 1) w
step w i h = rw (add-one, drop-cons w i 0)

pub read_on_step : (n : ℕ) (w : List ℕ) (i : ℕ) → i < length w → read_on n (drop i w) ≡ read_on (10 * n + (get_or w i 0 - 48)) (drop (i + 1) w)
read_on_step n w i h = ap (read_on n) (step w i h)

pub digits_step : (w : List ℕ) (i : ℕ) → i < length w → all_ascii_digits (drop i w) ≡ true → all_ascii_digits (drop (i + 1) w) ≡ true
digits_step w i h all = (and_both _ _ (sym (ap all_ascii_digits (step w i h)) ∙ all)).1
