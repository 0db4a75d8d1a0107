-- A value of each word up to the end of the line.
use Rattle.std.proofs.Common.{◌≡◌, ℕ, suc, List, [], ◌∷◌, ◌++◌, length, Option, Some, None, Ok, Err, ◌⊎◌, inl, inr, refl, sym, ap, subst, ◌∙◌, append_assoc}
use Rattle.std.specs.Prelude.{map}
use Rattle.std.proofs.lemmas.List.{append-nil}
use Rattle.script_words.specs.Grammar.{Token, AreWords}
use Rattle.script_words.specs.Reading.{each, each_on}
use Rattle.script_words.specs.Exact.{At, Dies, Lives, Exact}
use Rattle.script_words.specs.Classes.{IsClass}

on_finds : {A : Type 0} (of : List ℕ → Option A) (done : List A) (o : Option A) (ws : List (List ℕ)) (n : ℕ) → ((x : A) (n : ℕ) → each of (done ++ x ∷ []) ws ≡ Err n → At (each of (done ++ x ∷ [])) ws n)
    → each_on o (λ x. each of (done ++ x ∷ []) ws) (length ws) ≡ Err n
    → ((n ≡ suc (length ws)) × Dies (λ l. each_on o (λ x. each of (done ++ x ∷ []) l) (length l))) ⊎ (Lives (λ l. each_on o (λ x. each of (done ++ x ∷ []) l) (length l)) × At (λ l. each_on o (λ x. each of (done ++ x ∷ []) l) (length l)) ws n)
on_finds of done None ws n more e = inl (cc, λ l. (suc (length l), refl))
on_finds of done (Some x) ws n more e = inr (([], (done ++ x ∷ [], refl)), more x n e)

finds : {A : Type 0} (of : List ℕ → Option A) (ws : List (List ℕ)) (done : List A) (n : ℕ) → each of done ws ≡ Err n → At (each of done) ws n
finds of [] done n e = absurd cc
finds of (w ∷ ws) done n e = on_finds of done (of w) ws n (λ x n e. finds of ws (done ++ x ∷ []) n e) e

-- what stands behind those done
abbrev pub Behind : {A : Type 0} → (A → Token) → List A → List A → List (List ℕ) → Type 0
Behind {A} token done all ws = (more : List A) × (all ≡ done ++ more) × AreWords (map token more) ws

on_takes : {A : Type 0} {of : List ℕ → Option A} {token : A → Token} → IsClass of token → (done : List A) (w : List ℕ) (o : Option A) → of w ≡ o → (ws : List (List ℕ)) (all : List A)
    → ((x : A) → each of (done ++ x ∷ []) ws ≡ Ok all → Behind token (done ++ x ∷ []) all ws) → each_on o (λ x. each of (done ++ x ∷ []) ws) (length ws) ≡ Ok all → Behind token done all (w ∷ ws)
on_takes class done w None is ws all more e = absurd cc
on_takes class done w (Some x) is ws all more e = let t = more x e in (x ∷ t.0, t.1 ∙ append_assoc done (x ∷ []) t.0, (class.takes w x is, t.2))

takes : {A : Type 0} {of : List ℕ → Option A} {token : A → Token} → IsClass of token → (ws : List (List ℕ)) (done all : List A) → each of done ws ≡ Ok all → Behind token done all ws
takes class [] done all e = let same : done ≡ all = cc in ([], sym same ∙ sym (append-nil done), tt)
takes {A} {of} {token} class (w ∷ ws) done all e = on_takes class done w (of w) refl ws all (λ x e. takes class ws (done ++ x ∷ []) all e) e

-- a row of words of a class
pub exact_each : {A : Type 0} {of : List ℕ → Option A} {token : A → Token} → IsClass of token → Exact (each of []) (λ all ws. AreWords (map token all) ws)
exact_each {A} {of} {token} class = record {
  some = ([], ([], refl));
  partly = record {
    finds = λ ws n e. finds of ws [] n e;
    takes = λ ws all e. let t = takes class ws [] all e in subst (λ (xs : List A). AreWords (map token xs) ws) (sym t.1) t.2;
  };
}

again : {A : Type 0} {of : List ℕ → Option A} {token : A → Token} → IsClass of token → (ws : List (List ℕ)) (done more : List A) → AreWords (map token more) ws → each of done ws ≡ Ok (done ++ more)
again class [] done [] is = ap (λ l. Ok l) (sym (append-nil done))
again class [] done (x ∷ more) is = absurd is
again class (w ∷ ws) done [] is = absurd is
again {A} {of} {token} class (w ∷ ws) done (x ∷ more) is =
    ap (λ (o : Option A). each_on o (λ x. each of (done ++ x ∷ []) ws) (length ws)) (class.again w x is.0) ∙ again class ws (done ++ x ∷ []) more is.1 ∙ ap (λ l. Ok l) (append_assoc done (x ∷ []) more)

-- and back
pub each_again : {A : Type 0} {of : List ℕ → Option A} {token : A → Token} → IsClass of token → (all : List A) (ws : List (List ℕ)) → AreWords (map token all) ws → each of [] ws ≡ Ok all
each_again class all ws is = again class ws [] all is
