-- Which words a command has.
use Rattle.std.proofs.Common.{◌≡◌, ◌∙◌, ◌<◌, ◌≤◌, ◌^◌, ℕ, true, false, List, [], ◌∷◌, length, get_or, Some, None, Result, Ok, Err, IsErrOf, refl, ap, inl, inr, arith}
use Rattle.std.specs.List.{list_any}
use Rattle.std.specs.Fmt.{decimal}
use Rattle.std.proofs.lemmas.Fmt.{first_decimal, decimal_digit}
use Rattle.std.proofs.lemmas.Bool.{cases_eq}
use Rattle.net_types.specs.Names.{is_name}
use Rattle.agent_words.specs.declared.command.Command.{Command}
use Rattle.agent_words.specs.declared.command.Command.TheVariants.{Run, Check, Gen}
use Rattle.agent_words.specs.Words.{Form, run_form, keep_form, check_form, gen_form, words_of, begins_with_hyphen, IsCommand}

pub has_form : (c : Command) (ws : List (List ℕ)) → IsCommand c ws → (f : Form) × (ws ≡ words_of f)
has_form (Run None) ws is = (run_form, is)
has_form (Run (Some name)) ws is = (keep_form name, is.0)
has_form (Check name) ws is = (check_form name, is.0)
has_form (Gen seed count) ws is = (gen_form (decimal seed) (decimal count), is.0)

name_clear : (name : List ℕ) → is_name name ≡ true → begins_with_hyphen name ≡ false
name_clear [] is = refl
name_clear (x ∷ xs) is = grind (arith, is)

high_clear : (bs : List ℕ) → 48 ≤ get_or bs 0 0 → begins_with_hyphen bs ≡ false
high_clear [] h = refl
high_clear (x ∷ xs) h = grind (arith, h)

decimal_clear : (n : ℕ) → n < 2 ^ 64 → begins_with_hyphen (decimal n) ≡ false
decimal_clear n small = elim (cases_eq n 0) [
  | inl zero ↦ ap (λ k. begins_with_hyphen (decimal k)) zero ∙ ap begins_with_hyphen (decimal_digit 0 (omega arith))
  | inr some ↦ high_clear (decimal n) (omega (arith, first_decimal n (omega arith) small))
]

-- a command's words begin with no hyphen
pub clear : (c : Command) (ws : List (List ℕ)) → IsCommand c ws → list_any begins_with_hyphen ws ≡ false
clear (Run None) ws is = ap (list_any begins_with_hyphen) is
clear (Run (Some name)) ws is = ap (list_any begins_with_hyphen) is.0 ∙ rw (name_clear name is.1) refl
clear (Check name) ws is = ap (list_any begins_with_hyphen) is.0 ∙ rw (name_clear name is.1) refl
clear (Gen seed count) ws is = ap (list_any begins_with_hyphen) is.0 ∙ rw (decimal_clear seed is.1, decimal_clear count (omega (arith, is.3))) refl

second : List (List ℕ) → List ℕ
second (a ∷ b ∷ ws) = b
second _ = []

third : List (List ℕ) → List ℕ
third (a ∷ b ∷ c ∷ ws) = c
third _ = []

initial : List (List ℕ) → ℕ
initial ((x ∷ xs) ∷ ws) = x
initial _ = 0

-- what a command needs of the texts in its words
pub keep_needs : (c : Command) (text : List ℕ) → IsCommand c (words_of (keep_form text)) → is_name text ≡ true
unfolding second initial
keep_needs (Run None) text is = absurd (omega (arith, ap length is))
keep_needs (Run (Some name)) text is = ap is_name (ap second is.0) ∙ is.1
keep_needs (Check name) text is = absurd (omega (arith, ap initial is.0))
keep_needs (Gen seed count) text is = absurd (omega (arith, ap length is.0))

pub check_needs : (c : Command) (text : List ℕ) → IsCommand c (words_of (check_form text)) → is_name text ≡ true
unfolding second initial
check_needs (Run None) text is = absurd (omega (arith, ap length is))
check_needs (Run (Some name)) text is = absurd (omega (arith, ap initial is.0))
check_needs (Check name) text is = ap is_name (ap second is.0) ∙ is.1
check_needs (Gen seed count) text is = absurd (omega (arith, ap length is.0))

pub gen_needs : (c : Command) (s t : List ℕ) → IsCommand c (words_of (gen_form s t))
    → (seed : ℕ) × (count : ℕ) × (s ≡ decimal seed) × (t ≡ decimal count) × (seed < 2 ^ 64) × (1 ≤ count) × (count ≤ 20000)
unfolding second third
gen_needs (Run None) s t is = absurd (omega (arith, ap length is))
gen_needs (Run (Some name)) s t is = absurd (omega (arith, ap length is.0))
gen_needs (Check name) s t is = absurd (omega (arith, ap length is.0))
gen_needs (Gen seed count) s t is = (seed, count, ap second is.0, ap third is.0, is.1, is.2, is.3)

change : {A B E : Type 0} → E → Result A E → Result B E
change d (Ok a) = Err d
change d (Err e) = Err e

-- an error is the same whatever the value would have been
pub refused_as : {A B E : Type 0} (e x : E) → IsErrOf {T = A} (Err e) x → IsErrOf {T = B} (Err e) x
unfolding change
refused_as {A} {B} {E} e x is = ap (change {A = A} {B = B} {E = E} x) is
