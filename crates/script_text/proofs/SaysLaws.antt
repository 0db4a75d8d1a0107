-- The words of a text that is printed with single spaces.
use Rattle.std.proofs.Common.{◌≡◌, ◌≢◌, ◌<◌, ◌≤◌, ◌^◌, ℕ, List, [], ◌∷◌, ◌++◌, length, Bool, true, false, cond, refl, sym, ap, subst, ◌∙◌, arith}
use Rattle.std.specs.List.{AllByRecursion}
use Rattle.std.specs.Prelude.{◌==◌, ◌&&◌, not, if◌then◌else◌}
use Rattle.std.specs.Str.{all_ascii_digits}
use Rattle.std.specs.Fmt.{decimal}
use Rattle.std.proofs.lemmas.Bool.{and_parts, ne_eqb, leb-true}
use Rattle.std.proofs.lemmas.Fmt.{decimal_nonempty}
use Rattle.net_types.specs.Names.{is_vlan_name, is_vlan_name_byte, all_vlan_name_bytes}
use Rattle.script_words.specs.Words.{words, goes_on, onto_first}
use Rattle.script_words.specs.Grammar.{Token, Spells, AreWords}
use Rattle.script_words.specs.NumberLaws.{decimal_digits}

-- one word: it isn't empty and has no space
pub record IsWord (word : List ℕ) : Type 0 where
  pub some : 0 < length word
  pub solid : AllByRecursion (λ b. b ≢ 32) word

-- a word ends before it
abbrev pub IsBreak : List ℕ → Type 0
IsBreak [] = Unit {0}
IsBreak (b ∷ bs) = b ≡ 32

breaks_here : (rest : List ℕ) → IsBreak rest → goes_on rest ≡ false
breaks_here [] is = refl
breaks_here (b ∷ bs) is = ap (λ (c : ℕ). if c == 32 then false else true) is

not_space : (b : ℕ) (x y : List (List ℕ)) → b ≢ 32 → cond (b == 32) x y ≡ y
not_space b x y other = ap (λ (t : Bool). cond t x y) (ne_eqb b 32 other)

goes_on_here : (c : ℕ) (bs : List ℕ) → c ≢ 32 → goes_on (c ∷ bs) ≡ true
goes_on_here c bs other = ap (λ (t : Bool). cond t false true) (ne_eqb c 32 other)

pub word_before : (word rest : List ℕ) → 0 < length word → AllByRecursion (λ b. b ≢ 32) word → IsBreak rest → words (word ++ rest) ≡ word ∷ words rest
unfolding words
word_before [] rest some solid is = absurd (omega arith)
word_before (b ∷ []) rest some solid is =
    not_space b (words rest) (if goes_on rest then onto_first b (words rest) else (b ∷ []) ∷ words rest) solid.0
    ∙ ap (λ (t : Bool). if t then onto_first b (words rest) else (b ∷ []) ∷ words rest) (breaks_here rest is)
word_before (b ∷ c ∷ cs) rest some solid is =
    let more = (c ∷ cs) ++ rest in
    not_space b (words more) (if goes_on more then onto_first b (words more) else (b ∷ []) ∷ words more) solid.0
    ∙ ap (λ (t : Bool). if t then onto_first b (words more) else (b ∷ []) ∷ words more) (goes_on_here c (cs ++ rest) solid.1.0)
    ∙ ap (onto_first b) (word_before (c ∷ cs) rest (omega arith) solid.1 is)

-- the words of the text spell the tokens
abbrev pub Says : List Token → List ℕ → Type 0
Says tokens text = AreWords tokens (words text)

pub more : (token : Token) (tokens : List Token) (word rest : List ℕ) → Spells token word → IsWord word → IsBreak rest → Says tokens rest → Says (token ∷ tokens) (word ++ rest)
more token tokens word rest is one break says = subst (AreWords (token ∷ tokens)) (sym (word_before word rest one.some one.solid break)) (is, says)

pub none_left : Says [] []
unfolding words
none_left = tt

-- behind a space
pub behind : (tokens : List Token) (text : List ℕ) → Says tokens text → Says tokens (32 ∷ text)
unfolding words
behind tokens text says = says

-- Words that are known.

abbrev all_solid : List ℕ → Bool
all_solid [] = true
all_solid (b ∷ bs) = not (b == 32) && all_solid bs

space_no : (b : ℕ) → not (b == 32) ≡ true → b ≢ 32
space_no b is = λ e. let no : not (32 == 32) ≡ true = subst (λ (c : ℕ). not (c == 32) ≡ true) e is in absurd cc

solid_by : (word : List ℕ) → all_solid word ≡ true → AllByRecursion (λ b. b ≢ 32) word
solid_by [] is = tt
solid_by (b ∷ bs) is = let parts = and_parts _ _ is in (space_no b parts.0, solid_by bs parts.1)

pub literal : (word : List ℕ) → all_solid word ≡ true → 0 < length word → IsWord word
literal word is some = record { some = some; solid = solid_by word is }

digits_solid : (word : List ℕ) → all_ascii_digits word ≡ true → AllByRecursion (λ b. b ≢ 32) word
digits_solid [] is = tt
digits_solid (b ∷ bs) is =
    let parts = and_parts _ _ is in
    let range = and_parts _ _ parts.0 in
    let low : 48 ≤ b = leb-true _ _ range.0 in
    ((λ e. absurd (omega (arith, low, e))), digits_solid bs parts.1)

pub decimal_word : (n : ℕ) → n < 2 ^ 64 → IsWord (decimal n)
decimal_word n small = record { some = decimal_nonempty n small; solid = digits_solid (decimal n) (decimal_digits n small) }

name_byte : (b : ℕ) → is_vlan_name_byte b ≡ true → b ≢ 32
name_byte b is = λ e. let no : is_vlan_name_byte 32 ≡ true = subst (λ (c : ℕ). is_vlan_name_byte c ≡ true) e is in absurd cc

names_solid : (word : List ℕ) → all_vlan_name_bytes word ≡ true → AllByRecursion (λ b. b ≢ 32) word
names_solid [] is = tt
names_solid (b ∷ bs) is = let parts = and_parts _ _ is in (name_byte b parts.0, names_solid bs parts.1)

pub name_word : (word : List ℕ) → is_vlan_name word ≡ true → IsWord word
name_word word is =
    let parts = and_parts _ _ is in
    let size = and_parts _ _ parts.0 in
    record { some = leb-true 1 (length word) size.0; solid = names_solid word parts.1 }
