-- Texts that are written one after another.
use Rattle.std.proofs.Common.{◌≡◌, ℕ, List, [], ◌∷◌, ◌++◌, Result, Ok, Err, OnOk, ap, ◌∙◌, append_assoc, codes}
use Rattle.std.specs.Fmt.{decimal}

-- a text behind one that was written before
pub writes_behind : {E : Type 0} (r : Result (Unit {0}) E) (before between after front back whole : List ℕ) → between ≡ before ++ front → OnOk r (after ≡ between ++ back) → front ++ back ≡ whole → OnOk r (after ≡ before ++ whole)
writes_behind (Ok _) before between after front back whole first second same = second ∙ ap (λ (t : List ℕ). t ++ back) first ∙ append_assoc before front back ∙ ap (λ (t : List ℕ). before ++ t) same
writes_behind (Err _) before between after front back whole first second same = tt

-- a text behind words and a number
pub behind_number : (words text : List ℕ) (n m : ℕ) → n ≡ m → (words ++ (codes " " ++ (decimal n ++ codes " "))) ++ text ≡ words ++ (codes " " ++ (decimal m ++ (codes " " ++ text)))
behind_number words text n m is =
    append_assoc words (32 ∷ (decimal n ++ 32 ∷ [])) text ∙ ap (λ (l : List ℕ). words ++ 32 ∷ l) (append_assoc (decimal n) (32 ∷ []) text) ∙ ap (λ (k : ℕ). words ++ 32 ∷ (decimal k ++ 32 ∷ text)) is

-- a text behind words and three numbers
pub behind_three : (words text : List ℕ) (a b c k l m : ℕ) → a ≡ k → b ≡ l → c ≡ m → (words ++ (decimal a ++ (codes " " ++ (decimal b ++ (codes " " ++ (decimal c ++ codes " ")))))) ++ text ≡ words ++ (decimal k ++ (codes " " ++ (decimal l ++ (codes " " ++ (decimal m ++ (codes " " ++ text))))))
behind_three words text a b c k l m first second third =
    append_assoc words (decimal a ++ 32 ∷ (decimal b ++ 32 ∷ (decimal c ++ 32 ∷ []))) text
    ∙ ap (λ (x : List ℕ). words ++ x) (append_assoc (decimal a) (32 ∷ (decimal b ++ 32 ∷ (decimal c ++ 32 ∷ []))) text)
    ∙ ap (λ (x : List ℕ). words ++ (decimal a ++ 32 ∷ x)) (append_assoc (decimal b) (32 ∷ (decimal c ++ 32 ∷ [])) text ∙ ap (λ (x : List ℕ). decimal b ++ 32 ∷ x) (append_assoc (decimal c) (32 ∷ []) text))
    ∙ ap (λ (n : ℕ). words ++ (decimal n ++ 32 ∷ (decimal b ++ 32 ∷ (decimal c ++ 32 ∷ text)))) first
    ∙ ap (λ (n : ℕ). words ++ (decimal k ++ 32 ∷ (decimal n ++ 32 ∷ (decimal c ++ 32 ∷ text)))) second
    ∙ ap (λ (n : ℕ). words ++ (decimal k ++ 32 ∷ (decimal l ++ 32 ∷ (decimal n ++ 32 ∷ text)))) third

-- a text behind words, a number and another text
pub behind_both : (words middle text : List ℕ) (n : ℕ) → (words ++ (codes " " ++ (decimal n ++ (codes " " ++ middle)))) ++ text ≡ words ++ (codes " " ++ (decimal n ++ (codes " " ++ (middle ++ text))))
behind_both words middle text n = append_assoc words (32 ∷ (decimal n ++ 32 ∷ middle)) text ∙ ap (λ (l : List ℕ). words ++ 32 ∷ l) (append_assoc (decimal n) (32 ∷ middle) text)

-- a space, a text, a space and a number
pub station_written : {E : Type 0} (r : Result (Unit {0}) E) (before first second after text : List ℕ) (n m : ℕ) → first ≡ before ++ codes " " → second ≡ first ++ text → OnOk r (after ≡ second ++ (codes " " ++ decimal n)) → n ≡ m → OnOk r (after ≡ before ++ (codes " " ++ (text ++ (codes " " ++ decimal m))))
station_written (Ok _) before first second after text n m space wrote last is =
    last ∙ ap (λ (l : List ℕ). l ++ 32 ∷ decimal n) (wrote ∙ ap (λ (l : List ℕ). l ++ text) space ∙ append_assoc before (32 ∷ []) text)
    ∙ append_assoc before (32 ∷ text) (32 ∷ decimal n)
    ∙ ap (λ (k : ℕ). before ++ 32 ∷ (text ++ 32 ∷ decimal k)) is
station_written (Err _) before first second after text n m space wrote last is = tt

-- a text behind words, a number and a word
pub behind_word : (words word given text : List ℕ) (n m : ℕ) → n ≡ m → word ≡ given → (words ++ (decimal n ++ (codes " " ++ word))) ++ text ≡ words ++ (decimal m ++ (codes " " ++ (given ++ text)))
behind_word words word given text n m is same =
    append_assoc words (decimal n ++ 32 ∷ word) text ∙ ap (λ (l : List ℕ). words ++ l) (append_assoc (decimal n) (32 ∷ word) text)
    ∙ ap (λ (k : ℕ). words ++ (decimal k ++ 32 ∷ (word ++ text))) is ∙ ap (λ (w : List ℕ). words ++ (decimal m ++ 32 ∷ (w ++ text))) same
