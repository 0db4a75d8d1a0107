-- Readers whose values are those of a form, and whose faults are at the first word that nothing which they read begins with.
use Rattle.std.proofs.Common.{◌≡◌, ◌≤◌, ◌+◌, ◌-◌, ℕ, suc, zero, List, [], ◌∷◌, ◌++◌, length, take, Bool, true, false, cond, Option, Some, None, Result, Ok, Err, ◌⊎◌, inl, inr, refl, sym, ap, subst, ◌∙◌, arith}
use Rattle.std.specs.Str.{bytes_eq}
use Rattle.std.proofs.lemmas.Slice.Eq.{bytes_eq-Decides}
use Rattle.script_words.specs.Faults.{Begins, IsBadAt}
use Rattle.script_words.specs.Reading.{◌>>=◌, made, one, turned, choose, bad, ended}

-- the words are read as something
abbrev pub Reads : {A : Type 0} → (List (List ℕ) → Result A ℕ) → List (List ℕ) → Type 0
Reads {A} read ws = (x : A) × (read ws ≡ Ok x)

-- some words are read as something
abbrev pub Lives : {A : Type 0} → (List (List ℕ) → Result A ℕ) → Type 0
Lives read = (ws : List (List ℕ)) × Reads read ws

-- no words are read as anything
abbrev pub Dies : {A : Type 0} → (List (List ℕ) → Result A ℕ) → Type 0
Dies read = (ws : List (List ℕ)) → (n : ℕ) × (read ws ≡ Err n)

-- with n words left, the next word is the first that nothing read begins with
abbrev pub At : {A : Type 0} → (List (List ℕ) → Result A ℕ) → List (List ℕ) → ℕ → Type 0
At read [] n = n ≡ 0
At read (w ∷ ws) n = ((n ≡ suc (length ws)) × Dies (λ l. read (w ∷ l))) ⊎ (Lives (λ l. read (w ∷ l)) × At (λ l. read (w ∷ l)) ws n)

-- each value is of the form, and each fault is at such a word
pub record Partly {A : Type 0} (read : List (List ℕ) → Result A ℕ) (Is : A → List (List ℕ) → Type 0) : Type 0 where
  pub finds : (ws : List (List ℕ)) (n : ℕ) → read ws ≡ Err n → At read ws n
  pub takes : (ws : List (List ℕ)) (x : A) → read ws ≡ Ok x → Is x ws

-- and something is read
pub record Exact {A : Type 0} (read : List (List ℕ) → Result A ℕ) (Is : A → List (List ℕ) → Type 0) : Type 0 where
  pub some : Lives read
  pub partly : Partly read Is

pub exact_ended : {A : Type 0} {x : A} {Is : A → List (List ℕ) → Type 0} → Is x [] → Exact (ended x) Is
exact_ended {A} {x} {Is} is = record { some = ([], (x, refl)); partly = record { finds = finds; takes = takes } } where
  finds : (ws : List (List ℕ)) (n : ℕ) → ended x ws ≡ Err n → At (ended x) ws n
  finds [] n e = absurd cc
  finds (w ∷ ws) n e = inl (cc, λ l. (suc (length l), refl))

  takes : (ws : List (List ℕ)) (y : A) → ended x ws ≡ Ok y → Is y ws
  takes [] y e = let same : x ≡ y = cc in subst (λ z. Is z []) same is
  takes (w ∷ ws) y e = absurd cc

pub partly_bad : {A : Type 0} {Is : A → List (List ℕ) → Type 0} → Partly (bad {A = A}) Is
partly_bad {A} {Is} = record { finds = finds; takes = λ ws x e. absurd cc } where
  finds : (ws : List (List ℕ)) (n : ℕ) → bad {A = A} ws ≡ Err n → At (bad {A = A}) ws n
  finds [] n e = cc
  finds (w ∷ ws) n e = inl (cc, λ l. (suc (length l), refl))

-- by what a word was made into
abbrev onward : {A B : Type 0} → (B → List (List ℕ) → Result A ℕ) → Option B → List (List ℕ) → Result A ℕ
onward next o ws = made o ws >>= λ x. next x.0 x.1

word_finds : {A B : Type 0} (next : B → List (List ℕ) → Result A ℕ) (Is : B → A → List (List ℕ) → Type 0) (o : Option B) → ((b : B) → o ≡ Some b → Exact (next b) (Is b)) → (ws : List (List ℕ)) (n : ℕ) → onward next o ws ≡ Err n
    → ((n ≡ suc (length ws)) × Dies (onward next o)) ⊎ (Lives (onward next o) × At (onward next o) ws n)
word_finds next Is None exact ws n e = inl (cc, λ l. (suc (length l), refl))
word_finds next Is (Some b) exact ws n e = inr ((exact b refl).some, (exact b refl).partly.finds ws n e)

word_takes : {A B : Type 0} (next : B → List (List ℕ) → Result A ℕ) (Is : A → List (List ℕ) → Type 0) (o : Option B) → ((b : B) → o ≡ Some b → Exact (next b) Is) → (ws : List (List ℕ)) (x : A) → onward next o ws ≡ Ok x → Is x ws
word_takes next Is None exact ws x e = absurd cc
word_takes next Is (Some b) exact ws x e = (exact b refl).partly.takes ws x e

-- a word of which something can be made, and then what its value asks for
pub exact_word : {A B : Type 0} {of : List ℕ → Option B} {next : B → List (List ℕ) → Result A ℕ} {Is : A → List (List ℕ) → Type 0}
    → ((w : List ℕ) × (b : B) × (of w ≡ Some b)) → ((w : List ℕ) (b : B) → of w ≡ Some b → Exact (next b) (λ x ws. Is x (w ∷ ws))) → Exact (one of next) Is
unfolding one
exact_word {A} {B} {of} {next} {Is} some exact = record {
  some = let t = (exact some.0 some.1 some.2).some in (some.0 ∷ t.0, (t.1.0, ap (λ (o : Option B). onward next o t.0) some.2 ∙ t.1.1));
  partly = record { finds = finds; takes = takes };
} where
  finds : (ws : List (List ℕ)) (n : ℕ) → one of next ws ≡ Err n → At (one of next) ws n
  finds [] n e = cc
  finds (w ∷ ws) n e = word_finds next (λ b x ws. Is x (w ∷ ws)) (of w) (exact w) ws n e

  takes : (ws : List (List ℕ)) (y : A) → one of next ws ≡ Ok y → Is y ws
  takes [] x e = absurd cc
  takes (w ∷ ws) x e = word_takes next (λ x ws. Is x (w ∷ ws)) (of w) (exact w) ws x e

chosen_finds : {A : Type 0} (here other : List (List ℕ) → Result A ℕ) (Here Other : A → List (List ℕ) → Type 0) → Exact here Here → Partly other Other → (w : List ℕ) (t : Bool) (ws : List (List ℕ)) (n : ℕ) → cond t (here ws) (other (w ∷ ws)) ≡ Err n
    → ((n ≡ suc (length ws)) × Dies (λ l. cond t (here l) (other (w ∷ l)))) ⊎ (Lives (λ l. cond t (here l) (other (w ∷ l))) × At (λ l. cond t (here l) (other (w ∷ l))) ws n)
chosen_finds here other Here Other exact partly w true ws n e = inr (exact.some, exact.partly.finds ws n e)
chosen_finds here other Here Other exact partly w false ws n e = partly.finds (w ∷ ws) n e

chosen_takes : {A : Type 0} (here other : List (List ℕ) → Result A ℕ) (Is : A → List (List ℕ) → Type 0) (text w : List ℕ) (t : Bool) → bytes_eq w text ≡ t → Exact here (λ x ws. Is x (text ∷ ws)) → Partly other Is → (ws : List (List ℕ)) (x : A) → cond t (here ws) (other (w ∷ ws)) ≡ Ok x → Is x (w ∷ ws)
chosen_takes here other Is text w true is exact partly ws x e = subst (λ v. Is x (v ∷ ws)) (sym ((bytes_eq-Decides w text).0 is)) (exact.partly.takes ws x e)
chosen_takes here other Is text w false is exact partly ws x e = partly.takes (w ∷ ws) x e

-- one reader behind a keyword, and another for all other words
pub partly_choose : {A : Type 0} (text : List ℕ) {here other : List (List ℕ) → Result A ℕ} {Is : A → List (List ℕ) → Type 0} → Exact here (λ x ws. Is x (text ∷ ws)) → Partly other Is → Partly (choose text here other) Is
unfolding choose
partly_choose {A} text {here} {other} {Is} exact partly = record { finds = finds; takes = takes } where
  finds : (ws : List (List ℕ)) (n : ℕ) → choose text here other ws ≡ Err n → At (choose text here other) ws n
  finds [] n e = partly.finds [] n e
  finds (w ∷ ws) n e = chosen_finds here other (λ x ws. Is x (text ∷ ws)) Is exact partly w (bytes_eq w text) ws n e

  takes : (ws : List (List ℕ)) (y : A) → choose text here other ws ≡ Ok y → Is y ws
  takes [] x e = partly.takes [] x e
  takes (w ∷ ws) x e = chosen_takes here other Is text w (bytes_eq w text) refl exact partly ws x e

pub exact_choose : {A : Type 0} (text : List ℕ) {here other : List (List ℕ) → Result A ℕ} {Is : A → List (List ℕ) → Type 0} → Exact here (λ x ws. Is x (text ∷ ws)) → Partly other Is → Exact (choose text here other) Is
unfolding choose
exact_choose {A} text {here} {other} {Is} exact partly = record {
  some = let t = exact.some in (text ∷ t.0, (t.1.0, ap (λ (b : Bool). cond b (here t.0) (other (text ∷ t.0))) ((bytes_eq-Decides text text).1 refl) ∙ t.1.1));
  partly = partly_choose text exact partly;
}

abbrev mapped : {A B : Type 0} → (A → B) → Result A ℕ → Result B ℕ
mapped f r = r >>= λ x. Ok (f x)

map_err : {A B : Type 0} (f : A → B) (r : Result A ℕ) (n : ℕ) → mapped f r ≡ Err n → r ≡ Err n
map_err f (Ok x) n e = absurd cc
map_err f (Err m) n e = cc

map_ok : {A B : Type 0} (f : A → B) (r : Result A ℕ) (y : B) → mapped f r ≡ Ok y → (x : A) × (r ≡ Ok x) × (f x ≡ y)
map_ok f (Ok x) y e = (x, refl, cc)
map_ok f (Err n) y e = absurd cc

map_at : {A B : Type 0} (f : A → B) (read : List (List ℕ) → Result A ℕ) (ws : List (List ℕ)) (n : ℕ) → At read ws n → At (λ l. mapped f (read l)) ws n
map_at f read [] n at = at
map_at f read (w ∷ ws) n (inl x) = inl (x.0, λ l. let d = x.1 l in (d.0, ap (mapped f) d.1))
map_at f read (w ∷ ws) n (inr x) = inr ((x.0.0, (f x.0.1.0, ap (mapped f) x.0.1.1)), map_at f (λ l. read (w ∷ l)) ws n x.1)

-- something made of what all the words give
pub exact_map : {A B : Type 0} (f : A → B) {read : List (List ℕ) → Result A ℕ} {Is : A → List (List ℕ) → Type 0} {Made : B → List (List ℕ) → Type 0} → ((x : A) (ws : List (List ℕ)) → Is x ws → Made (f x) ws) → Exact read Is → Exact (turned f read) Made
unfolding turned
exact_map f {read} {Is} {Made} to exact = record {
  some = let t = exact.some in (t.0, (f t.1.0, ap (mapped f) t.1.1));
  partly = record {
    finds = λ ws n e. map_at f read ws n (exact.partly.finds ws n (map_err f (read ws) n e));
    takes = λ ws y e. let m = map_ok f (read ws) y e in subst (λ z. Made z ws) m.2 (to m.0 ws (exact.partly.takes ws m.0 m.1));
  };
}

at_short : {A : Type 0} (read : List (List ℕ) → Result A ℕ) (ws : List (List ℕ)) (n : ℕ) → At read ws n → n ≤ length ws
at_short read [] n at = omega arith
at_short read (w ∷ ws) n (inl x) = omega (arith, x.0)
at_short read (w ∷ ws) n (inr x) = omega (arith, at_short (λ l. read (w ∷ l)) ws n x.1)

both_not : {A : Type 0} (r : Result A ℕ) (x : A) (n : ℕ) → r ≡ Ok x → r ≡ Err n → ⊥
both_not r x n ok err = let e = sym ok ∙ err in cc

at_is : {A : Type 0} (read : List (List ℕ) → Result A ℕ) (ws : List (List ℕ)) (k n : ℕ) → k + n ≡ length ws → Lives read → At read ws n → read ws ≡ Err n → IsBadAt (Reads read) ws k
at_is read [] zero n same lives at e = record { within = omega arith; before = lives; here = λ less. absurd (omega arith); whole = λ x. both_not (read []) x.0 n x.1 e }
at_is read [] (suc k) n same lives at e = absurd (omega arith)
at_is read (w ∷ ws) zero n same lives (inl x) e = record {
  within = omega arith;
  before = lives;
  here = λ less begins. let d = x.1 begins.0 in both_not (read (w ∷ begins.0)) begins.1.0 d.0 begins.1.1 d.1;
  whole = λ x. both_not (read (w ∷ ws)) x.0 n x.1 e;
}
at_is read (w ∷ ws) zero n same lives (inr x) e = absurd (omega (arith, at_short (λ l. read (w ∷ l)) ws n x.1))
at_is read (w ∷ ws) (suc k) n same lives (inl x) e = absurd (omega (arith, x.0))
at_is {A} read (w ∷ ws) (suc k) n same lives (inr x) e =
    let rest = at_is (λ l. read (w ∷ l)) ws k n (omega arith) x.0 x.1 e in
    let count : suc k + 1 ≡ suc (k + 1) = omega arith in
    record {
      within = omega (arith, rest.within);
      before = rest.before;
      here = λ less begins. rest.here (omega arith) (subst (λ (m : ℕ). Begins (Reads read) (take m (w ∷ ws))) count begins);
      whole = λ x. both_not (read (w ∷ ws)) x.0 n x.1 e;
    }

bad_by : (P Q : List (List ℕ) → Type 0) → ((ws : List (List ℕ)) → P ws → Q ws) → ((ws : List (List ℕ)) → Q ws → P ws) → (ws : List (List ℕ)) (k : ℕ) → IsBadAt P ws k → IsBadAt Q ws k
bad_by P Q to from ws k bad = record {
  within = bad.within;
  before = (bad.before.0, to (take k ws ++ bad.before.0) bad.before.1);
  here = λ less begins. bad.here less (begins.0, from (take (k + 1) ws ++ begins.0) begins.1);
  whole = λ q. bad.whole (from ws q);
}

-- the fault of an exact reader that reads all words of its form is the first bad word
pub fault_is : {A : Type 0} (read : List (List ℕ) → Result A ℕ) (Is : A → List (List ℕ) → Type 0) → Exact read Is → ((x : A) (ws : List (List ℕ)) → Is x ws → read ws ≡ Ok x) → (ws : List (List ℕ)) (n : ℕ) → read ws ≡ Err n
    → (k : ℕ) × (k + n ≡ length ws) × IsBadAt (λ ws. (x : A) × Is x ws) ws k
fault_is {A} read Is exact again ws n e =
    let at = exact.partly.finds ws n e in
    let k = length ws - n in
    let count : k + n ≡ length ws = omega (arith, at_short read ws n at) in
    (k, count, bad_by (Reads read) (λ ws. (x : A) × Is x ws) (λ ws x. (x.0, exact.partly.takes ws x.0 x.1)) (λ ws x. (x.0, again x.0 ws x.1)) ws k (at_is read ws k n count exact.some at e))
