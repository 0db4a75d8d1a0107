-- The functions of texts give a value exactly where the form spells it: words and rows.
use Rattle.std.proofs.Common.{◌≡◌, ◌≤◌, ◌<◌, ◌^◌, ◌==◌, ◌&&◌, nat_le, ℕ, Option, Some, None, List, [], ◌∷◌, ◌++◌, length, Bool, true, false, cond, refl, sym, ap, subst, ◌∙◌, arith}
use Rattle.std.specs.Prelude.{bytes_eq, option_map, option_and_then}
use Rattle.std.specs.Fmt.{decimal}
use Rattle.std.specs.List.{join_with_byte, All}
use Rattle.std.specs.Str.Parse.{digits_value}
use Rattle.std.proofs.lemmas.Fmt.{decimal_is_IsNumeral}
use Rattle.std.proofs.lemmas.Bool.{cond-true, and_parts, and_from, eq-eqb, ne_eqb, eqb-true}
use Rattle.std.proofs.lemmas.Bool.Decides.{nat_tests}
use Rattle.std.proofs.lemmas.List.Elements.{All-nil, All-cons}
use Rattle.std.proofs.lemmas.List.Splits.{slice_split_none, slice_split_at, join_with_byte-slice_split}
use Rattle.std.proofs.lemmas.Slice.Eq.{bytes_eq-Decides}
use Rattle.ip_text.specs.Numerals.{all_hex, hex_on, IsHex, IsNumber, IsRow, Joined, in_base}
use Rattle.ip_text.specs.Values.{Computes, number_of, hex_of, all_of, words_of, row_of}
use Rattle.ip_text.proofs.ScanLaws.{Lacks}

-- a value behind a test
pub tested : {A : Type 0} (test : Bool) (x a : A) → cond test (Some x) None ≡ Some a → (test ≡ true) × (x ≡ a)
tested true x a e = (refl, cc)
tested false x a e = absurd cc

pub mapped_some : {A B : Type 0} (f : A → B) (o : Option A) (b : B) → option_map f o ≡ Some b → (a : A) × (o ≡ Some a) × (f a ≡ b)
mapped_some f None b e = absurd cc
mapped_some f (Some a) b e = (a, refl, cc)

pub then_some : {A B : Type 0} (f : A → Option B) (o : Option A) (b : B) → option_and_then f o ≡ Some b → (a : A) × (o ≡ Some a) × (f a ≡ Some b)
then_some f None b e = absurd cc
then_some f (Some a) b e = (a, refl, e)

same_bytes : (xs ys : List ℕ) → bytes_eq xs ys ≡ true → xs ≡ ys
same_bytes xs ys e = (bytes_eq-Decides xs ys).0 e

bytes_same : (xs ys : List ℕ) → xs ≡ ys → bytes_eq xs ys ≡ true
bytes_same xs ys e = (bytes_eq-Decides xs ys).1 e

test_le : (n m : ℕ) → nat_le n m ≡ true → n ≤ m
test_le n m e = grind (arith, nat_tests)

le_test : (n m : ℕ) → n ≤ m → nat_le n m ≡ true
le_test n m e = grind (arith, nat_tests)

pub number_computes : (low high : ℕ) → high < 2 ^ 64 → Computes (IsNumber low high) (number_of low high)
unfolding number_of
number_computes low high small = record {
  spells = λ a text e.
      let it = tested (bytes_eq text (decimal (digits_value 10 text)) && (nat_le low (digits_value 10 text) && nat_le (digits_value 10 text) high)) (digits_value 10 text) a e in
      let parts = and_parts (bytes_eq text (decimal (digits_value 10 text))) (nat_le low (digits_value 10 text) && nat_le (digits_value 10 text) high) it.0 in
      let range = and_parts (nat_le low (digits_value 10 text)) (nat_le (digits_value 10 text) high) parts.1 in
      record { enough = omega (arith, test_le _ _ range.0, it.1); within = omega (arith, test_le _ _ range.1, it.1); spelled = same_bytes text (decimal (digits_value 10 text)) parts.0 ∙ ap decimal it.1 };
  found = λ a text is.
      let value : digits_value 10 text ≡ a = ap (digits_value 10) is.spelled ∙ (decimal_is_IsNumeral a (omega (arith, is.within))).1 in
      let above : low ≤ digits_value 10 text = omega (arith, is.enough, value) in
      let below : digits_value 10 text ≤ high = omega (arith, is.within, value) in
      let range : (nat_le low (digits_value 10 text) && nat_le (digits_value 10 text) high) ≡ true = and_from _ _ (le_test _ _ above) (le_test _ _ below) in
      cond-true _ (Some (digits_value 10 text)) None (and_from _ _ (bytes_same text (decimal (digits_value 10 text)) (is.spelled ∙ ap decimal (sym value))) range) ∙ ap Some value;
}

pub hex_computes : (low high : ℕ) → Computes (IsHex low high) (hex_of low high)
unfolding hex_of
hex_computes low high = record {
  spells = λ a text e.
      let it = tested (all_hex text && (nat_le low (length text) && nat_le (length text) high)) (hex_on 0 text) a e in
      let parts = and_parts (all_hex text) (nat_le low (length text) && nat_le (length text) high) it.0 in
      let range = and_parts (nat_le low (length text)) (nat_le (length text) high) parts.1 in
      record { enough = test_le _ _ range.0; short = test_le _ _ range.1; digits = parts.0; spelled = sym it.1 };
  found = λ a text is. cond-true _ (Some (hex_on 0 text)) None (and_from _ _ is.digits (and_from _ _ (le_test _ _ is.enough) (le_test _ _ is.short))) ∙ ap Some (sym is.spelled);
}

-- all bytes but the separator
lacks_all : (s : ℕ) (t : List ℕ) → Lacks s t → All (λ x. (x == s) ≡ false) t
lacks_all s [] lacks = All-nil (λ x. (x == s) ≡ false)
lacks_all s (b ∷ bs) lacks = All-cons (λ x. (x == s) ≡ false) b bs (ne_eqb b s lacks.0) (lacks_all s bs lacks.1)

-- the first word is all of the text, or ends at the first separator
pub words_one : (s : ℕ) (t : List ℕ) → Lacks s t → words_of s t ≡ t ∷ []
unfolding words_of
words_one s t lacks = slice_split_none (λ b. b == s) t (lacks_all s t lacks)

pub words_more : (s : ℕ) (u w : List ℕ) → Lacks s u → words_of s (u ++ s ∷ w) ≡ u ∷ words_of s w
unfolding words_of
words_more s u w lacks = slice_split_at (λ b. b == s) u s w (lacks_all s u lacks) (eq-eqb s s refl)

-- the first word and its value, and the values of the others
all_cons : (value_of : List ℕ → Option ℕ) (w : List ℕ) (ws : List (List ℕ)) (v : ℕ) (vs : List ℕ) → value_of w ≡ Some v → all_of value_of ws ≡ Some vs → all_of value_of (w ∷ ws) ≡ Some (v ∷ vs)
unfolding all_of
all_cons value_of w ws v vs e f = ap (option_and_then (λ x. option_map (λ l. x ∷ l) (all_of value_of ws))) e ∙ ap (option_map (λ l. v ∷ l)) f

record FirstOf (value_of : List ℕ → Option ℕ) (w : List ℕ) (ws : List (List ℕ)) (values : List ℕ) : Type 0 where
  first : ℕ
  others : List ℕ
  here : value_of w ≡ Some first
  there : all_of value_of ws ≡ Some others
  whole : values ≡ first ∷ others

all_split : (value_of : List ℕ → Option ℕ) (w : List ℕ) (ws : List (List ℕ)) (values : List ℕ) → all_of value_of (w ∷ ws) ≡ Some values → FirstOf value_of w ws values
unfolding all_of
all_split value_of w ws values e =
    let it = then_some (λ x. option_map (λ l. x ∷ l) (all_of value_of ws)) (value_of w) values e in
    let more = mapped_some (λ l. it.0 ∷ l) (all_of value_of ws) values it.2 in
    record { first = it.0; others = more.0; here = it.1; there = more.1; whole = sym more.2 }

all_none : (value_of : List ℕ → Option ℕ) (values : List ℕ) → all_of value_of [] ≡ Some values → values ≡ []
unfolding all_of
all_none value_of values e = cc

-- words that spell values, joined
all_joined : (Is : ℕ → List ℕ → Type 0) (value_of : List ℕ → Option ℕ) (s : ℕ) → Computes Is value_of → (words : List (List ℕ)) (values : List ℕ) → all_of value_of words ≡ Some values → Joined Is s values (join_with_byte s words)
all_joined Is value_of s computes [] values e = subst (λ (l : List ℕ). Joined Is s l []) (sym (all_none value_of values e)) refl
all_joined Is value_of s computes (w ∷ []) values e =
    let it = all_split value_of w [] values e in
    subst (λ (l : List ℕ). Joined Is s l w) (sym (it.whole ∙ ap (λ (l : List ℕ). it.first ∷ l) (all_none value_of it.others it.there))) (computes.spells it.first w it.here)
all_joined Is value_of s computes (w ∷ x ∷ ws) values e =
    let it = all_split value_of w (x ∷ ws) values e in
    let next = all_split value_of x ws it.others it.there in
    let rest = all_joined Is value_of s computes (x ∷ ws) it.others it.there in
    subst (λ (l : List ℕ). Joined Is s l (w ++ s ∷ join_with_byte s (x ∷ ws))) (sym (it.whole ∙ ap (λ (l : List ℕ). it.first ∷ l) next.whole))
    (w, join_with_byte s (x ∷ ws), computes.spells it.first w it.here, subst (λ (l : List ℕ). Joined Is s l (join_with_byte s (x ∷ ws))) next.whole rest, refl)

pub words_joined : (s : ℕ) (t : List ℕ) → join_with_byte s (words_of s t) ≡ t
unfolding words_of
words_joined s t = join_with_byte-slice_split s t

-- the values of the words of a text of values
pub joined_words : (Is : ℕ → List ℕ → Type 0) (value_of : List ℕ → Option ℕ) (s : ℕ) → Computes Is value_of → ((a : ℕ) (t : List ℕ) → Is a t → Lacks s t) → (values t : List ℕ) → 0 < length values → Joined Is s values t → all_of value_of (words_of s t) ≡ Some values
unfolding all_of
joined_words Is value_of s computes lacks [] t some joined = absurd (omega arith)
joined_words Is value_of s computes lacks (v ∷ []) t some joined = ap (all_of value_of) (words_one s t (lacks v t joined)) ∙ all_cons value_of t [] v [] (computes.found v t joined) refl
joined_words Is value_of s computes lacks (v ∷ w ∷ vs) t some joined =
    ap (λ (l : List ℕ). all_of value_of (words_of s l)) joined.4 ∙ ap (all_of value_of) (words_more s joined.0 joined.1 (lacks v joined.0 joined.2))
    ∙ all_cons value_of joined.0 (words_of s joined.1) v (w ∷ vs) (computes.found v joined.0 joined.2) (joined_words Is value_of s computes lacks (w ∷ vs) joined.1 (omega arith) joined.3)

pub joined_of_words : (Is : ℕ → List ℕ → Type 0) (value_of : List ℕ → Option ℕ) (s : ℕ) → Computes Is value_of → (t values : List ℕ) → all_of value_of (words_of s t) ≡ Some values → Joined Is s values t
joined_of_words Is value_of s computes t values e = subst (λ (l : List ℕ). Joined Is s values l) (words_joined s t) (all_joined Is value_of s computes (words_of s t) values e)

pub row_computes : (Is : ℕ → List ℕ → Type 0) (value_of : List ℕ → Option ℕ) (s base count : ℕ) → 0 < count → Computes Is value_of → ((a : ℕ) (t : List ℕ) → Is a t → Lacks s t) → Computes (IsRow Is s base count) (row_of value_of s base count)
unfolding row_of
row_computes Is value_of s base count some computes lacks = record {
  spells = λ a text e.
      let it = then_some (λ parts. cond (length parts == count) (Some (in_base base 0 parts)) None) (all_of value_of (words_of s text)) a e in
      let test = tested (length it.0 == count) (in_base base 0 it.0) a it.2 in
      record { parts = it.0; number = eqb-true (length it.0) count test.0; joined = joined_of_words Is value_of s computes text it.0 it.1; spelled = sym test.1 };
  found = λ a text is.
      ap (option_and_then (λ parts. cond (length parts == count) (Some (in_base base 0 parts)) None)) (joined_words Is value_of s computes lacks is.parts text (omega (arith, is.number)) is.joined)
      ∙ cond-true (length is.parts == count) (Some (in_base base 0 is.parts)) None (eq-eqb (length is.parts) count is.number) ∙ ap Some (sym is.spelled);
}
