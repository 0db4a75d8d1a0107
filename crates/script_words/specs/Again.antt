-- The words of a value, read: its tokens' words give the value.
use Rattle.std.proofs.Common.{◌≡◌, ℕ, List, [], ◌∷◌, Bool, false, cond, Option, Result, Ok, refl, ap, ◌∙◌}
use Rattle.std.specs.Str.{bytes_eq}
use Rattle.std.proofs.lemmas.Slice.Eq.{bytes_eq-Decides}
use Rattle.script_words.specs.Grammar.{Token, key, Spells, AreWords}
use Rattle.script_words.specs.Reading.{◌>>=◌, made, one, turned, choose, ended}
use Rattle.script_words.specs.Exact.{Exact, exact_word}
use Rattle.script_words.specs.Classes.{IsClass}

-- all words of the tokens are read as the value
pub record Again {A : Type 0} (read : List (List ℕ) → Result A ℕ) (ts : List Token) (x : A) : Type 0 where
  pub again : (ws : List (List ℕ)) → AreWords ts ws → read ws ≡ Ok x

-- a word of a class, and then what its value asks for
pub exact_one : {A B : Type 0} {of : List ℕ → Option B} {token : B → Token} {next : B → List (List ℕ) → Result A ℕ} {Is : A → List (List ℕ) → Type 0}
    → IsClass of token → ((w : List ℕ) (b : B) → Spells (token b) w → Exact (next b) (λ x ws. Is x (w ∷ ws))) → Exact (one of next) Is
exact_one class exact = exact_word class.some (λ w b e. exact w b (class.takes w b e))

pub again_ended : {A : Type 0} {x : A} → Again (ended x) [] x
again_ended {A} {x} = record { again = go } where
  go : (ws : List (List ℕ)) → AreWords [] ws → ended x ws ≡ Ok x
  go [] is = refl
  go (w ∷ ws) is = absurd is

one_reads : {A B : Type 0} (of : List ℕ → Option B) (token : B → Token) (b : B) (next : B → List (List ℕ) → Result A ℕ) (ts : List Token) (x : A) → IsClass of token → Again (next b) ts x → (ws : List (List ℕ)) → AreWords (token b ∷ ts) ws → one of next ws ≡ Ok x
unfolding one
one_reads of token b next ts x class a [] is = absurd is
one_reads {A} {B} of token b next ts x class a (w ∷ ws) is = ap (λ (o : Option B). made o ws >>= λ y. next y.0 y.1) (class.again w b is.0) ∙ a.again ws is.1

pub again_one : {A B : Type 0} {of : List ℕ → Option B} {token : B → Token} {b : B} (next : B → List (List ℕ) → Result A ℕ) {ts : List Token} {x : A} → IsClass of token → Again (next b) ts x → Again (one of next) (token b ∷ ts) x
again_one {A} {B} {of} {token} {b} next {ts} {x} class a = record { again = one_reads of token b next ts x class a }

here_reads : {A : Type 0} (text : List ℕ) (here other : List (List ℕ) → Result A ℕ) (ts : List Token) (x : A) → Again here ts x → (ws : List (List ℕ)) → AreWords (key text ∷ ts) ws → choose text here other ws ≡ Ok x
unfolding choose
here_reads text here other ts x a [] is = absurd is
here_reads text here other ts x a (w ∷ ws) is = ap (λ (b : Bool). cond b (here ws) (other (w ∷ ws))) ((bytes_eq-Decides w text).1 is.0) ∙ a.again ws is.1

pub again_here : {A : Type 0} {text : List ℕ} {here : List (List ℕ) → Result A ℕ} (other : List (List ℕ) → Result A ℕ) {ts : List Token} {x : A} → Again here ts x → Again (choose text here other) (key text ∷ ts) x
again_here {A} {text} {here} other {ts} {x} a = record { again = here_reads text here other ts x a }

other_reads : {A : Type 0} (text front : List ℕ) (here other : List (List ℕ) → Result A ℕ) (ts : List Token) (x : A) → bytes_eq front text ≡ false → Again other (key front ∷ ts) x → (ws : List (List ℕ)) → AreWords (key front ∷ ts) ws → choose text here other ws ≡ Ok x
unfolding choose
other_reads text front here other ts x differs a [] is = absurd is
other_reads text front here other ts x differs a (w ∷ ws) is = ap (λ (v : List ℕ). cond (bytes_eq v text) (here ws) (other (w ∷ ws))) is.0 ∙ ap (λ (b : Bool). cond b (here ws) (other (w ∷ ws))) differs ∙ a.again (w ∷ ws) is

pub again_next : {A : Type 0} (text : List ℕ) {front : List ℕ} (here : List (List ℕ) → Result A ℕ) {other : List (List ℕ) → Result A ℕ} {ts : List Token} {x : A} → bytes_eq front text ≡ false → Again other (key front ∷ ts) x → Again (choose text here other) (key front ∷ ts) x
again_next {A} text {front} here {other} {ts} {x} differs a = record { again = other_reads text front here other ts x differs a }

pub again_map : {A B : Type 0} (f : A → B) {read : List (List ℕ) → Result A ℕ} {ts : List Token} {x : A} → Again read ts x → Again (turned f read) ts (f x)
unfolding turned
again_map {A} {B} f {read} {ts} {x} a = record { again = λ ws is. ap (λ (r : Result A ℕ). r >>= λ x. Ok (f x)) (a.again ws is) }
