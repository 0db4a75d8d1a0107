-- Reading words from left to right. A fault is how many words are left at it, the bad word included.
use Rattle.std.specs.Prelude.{◌≡◌, ◌-◌, ◌+◌, ◌*◌, ◌&&◌, nat_le, nat_lt, ℕ, suc, Bool, false, List, [], ◌∷◌, ◌++◌, length, Option, Some, None, Result, Ok, Err, if◌then◌else◌}
use Rattle.std.specs.Char.{is_ascii_digit}
use Rattle.std.specs.Str.{all_ascii_digits, bytes_eq}
use Rattle.net_types.specs.Names.{is_vlan_name, is_name}
use Rattle.script_words.specs.declared.fault.BadWord.{BadWord}
use Rattle.script_words.specs.declared.fault.ReadFault.{ReadFault}
use Rattle.script_words.specs.declared.fault.ReadFault.TheVariants.{Memory, Left}

infixl 10 ◌>>=◌
-- what is read goes on to the next reader, and a fault stays
abbrev pub ◌>>=◌ : {A B : Type 0} → Result A ℕ → (A → Result B ℕ) → Result B ℕ
(Ok x) >>= f = f x
(Err e) >>= f = Err e

-- the fault of a call is that of reading, unless memory ran out
abbrev pub Fails : {Y : Type 0} → ReadFault → Result Y ℕ → Type 0
Fails Memory read = Unit {0}
Fails (Left n) read = read ≡ Err n

-- what a call returned, seen by view, is what reading gives, unless memory ran out
abbrev pub Gives : {X Y : Type 0} → (X → Y) → Result X ReadFault → Result Y ℕ → Type 0
Gives view (Ok x) read = read ≡ Ok (view x)
Gives view (Err e) read = Fails e read

-- what a call that takes no memory found is what reading gives
abbrev pub Finds : {X : Type 0} → Result X BadWord → Result X ℕ → Type 0
Finds (Ok x) read = read ≡ Ok x
Finds (Err e) read = read ≡ Err e.left

-- what such a call took and the words that it left are what reading gives
abbrev pub Takes : {X : Type 0} → Result X BadWord → List (List ℕ) → Result (X × List (List ℕ)) ℕ → Type 0
Takes (Ok x) rest read = read ≡ Ok (x, rest)
Takes (Err e) rest read = read ≡ Err e.left

-- what a call took and the words that it left are what reading gives, unless memory ran out
abbrev pub Took : {X : Type 0} → Result X ReadFault → List (List ℕ) → Result (X × List (List ℕ)) ℕ → Type 0
Took (Ok x) rest read = read ≡ Ok (x, rest)
Took (Err e) rest read = Fails e read

-- the value of digits behind those of a number
abbrev pub read_on : ℕ → List ℕ → ℕ
read_on n [] = n
read_on n (c ∷ cs) = read_on (10 * n + (c - 48)) cs

-- digits, the first of several not zero
abbrev pub is_numeral : List ℕ → Bool
is_numeral [] = false
is_numeral (d ∷ []) = is_ascii_digit d
is_numeral (d ∷ e ∷ ds) = nat_lt 48 d && all_ascii_digits (d ∷ e ∷ ds)

-- the number that a word spells, from low to high
unfoldable pub number_of : ℕ → ℕ → List ℕ → Option ℕ
number_of low high word = if is_numeral word && (nat_le low (read_on 0 word) && nat_le (read_on 0 word) high) then Some (read_on 0 word) else None

-- the word, where it is a VLAN's name
unfoldable pub vlan_name_of : List ℕ → Option (List ℕ)
vlan_name_of word = if is_vlan_name word then Some word else None

-- the word, where it is a name in a store
unfoldable pub name_of : List ℕ → Option (List ℕ)
name_of word = if is_name word then Some word else None

-- a word of which something could be made
abbrev pub made : {A : Type 0} → Option A → List (List ℕ) → Result (A × List (List ℕ)) ℕ
made None ws = Err (suc (length ws))
made (Some x) ws = Ok (x, ws)

-- the next word, by what is made of it
abbrev pub word_at : {A : Type 0} → (List ℕ → Option A) → List (List ℕ) → Result (A × List (List ℕ)) ℕ
word_at of [] = Err 0
word_at of (w ∷ ws) = made (of w) ws

-- whether the next word is the key
abbrev pub begins_with : List ℕ → List (List ℕ) → Bool
begins_with key [] = false
begins_with key (w ∷ ws) = bytes_eq w key

-- the words behind the next one
abbrev pub behind_word : List (List ℕ) → List (List ℕ)
behind_word [] = []
behind_word (w ∷ ws) = ws

-- by the next word: is it the key?
unfoldable pub choose : {A : Type 0} → List ℕ → (List (List ℕ) → Result A ℕ) → (List (List ℕ) → Result A ℕ) → List (List ℕ) → Result A ℕ
choose key here other ws = if begins_with key ws then here (behind_word ws) else other ws

-- a word, and then what its value asks for
unfoldable pub one : {A B : Type 0} → (List ℕ → Option B) → (B → List (List ℕ) → Result A ℕ) → List (List ℕ) → Result A ℕ
one of next ws = word_at of ws >>= λ x. next x.0 x.1

-- something made of what all the words give
unfoldable pub turned : {A B : Type 0} → (A → B) → (List (List ℕ) → Result A ℕ) → List (List ℕ) → Result B ℕ
turned f read ws = read ws >>= λ x. Ok (f x)

-- nothing may stand here
abbrev pub bad : {A : Type 0} → List (List ℕ) → Result A ℕ
bad ws = Err (length ws)

-- the line ends here
abbrev pub ended : {A : Type 0} → A → List (List ℕ) → Result A ℕ
ended x [] = Ok x
ended x (w ∷ ws) = Err (suc (length ws))

-- one word more of a row, or its fault
abbrev pub each_on : {A : Type 0} → Option A → (A → Result (List A) ℕ) → ℕ → Result (List A) ℕ
each_on None more left = Err (suc left)
each_on (Some x) more left = more x

-- a value of each word up to the line's end, behind those done
abbrev pub each : {A : Type 0} → (List ℕ → Option A) → List A → List (List ℕ) → Result (List A) ℕ
each of done [] = Ok done
each of done (w ∷ ws) = each_on (of w) (λ x. each of (done ++ x ∷ []) ws) (length ws)
