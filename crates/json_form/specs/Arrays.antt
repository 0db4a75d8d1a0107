-- Numbers in a range, and arrays of so many items.
use Rattle.std.specs.Prelude.{ℕ, ◌≤◌, ◌&&◌, nat_le, bytes_eq, ◌⊎◌, Bool, List, Option, None, Some, option_map, option_and_then, if◌then◌else◌}
use Rattle.serde_json.specs.Data.{Data, array, Items, no_items, item}
use Rattle.std.proofs.Common.{inl, inr}
use Rattle.serde_json.specs.Find.{as_array, as_number, as_str, as_u64}

-- the number, where it is within the range
abbrev pub within : ℕ → ℕ → ℕ → Option ℕ
within low high n = if nat_le low n && nat_le n high then Some n else None

-- a whole number from low to high
abbrev pub number_of : ℕ → ℕ → Data → Option ℕ
number_of low high d = option_and_then (within low high) (option_and_then as_u64 (as_number d))

-- from low to high
abbrev pub IsWithin : ℕ → ℕ → ℕ → Type 0
IsWithin low high n = (low ≤ n) × (n ≤ high)

-- one item and no more
abbrev pub one_item : Items → Option Data
one_item no_items = None
one_item (item a no_items) = Some a
one_item (item a (item b more)) = None

abbrev pub one_of : Data → Option Data
one_of d = option_and_then one_item (as_array d)

-- two items and no more
abbrev pub two_items : Items → Option (Data × Data)
two_items no_items = None
two_items (item a no_items) = None
two_items (item a (item b no_items)) = Some (a, b)
two_items (item a (item b (item c more))) = None

abbrev pub two_of : Data → Option (Data × Data)
two_of d = option_and_then two_items (as_array d)

-- three items and no more
abbrev pub three_items : Items → Option (Data × Data × Data)
three_items no_items = None
three_items (item a no_items) = None
three_items (item a (item b no_items)) = None
three_items (item a (item b (item c no_items))) = Some (a, b, c)
three_items (item a (item b (item c (item d more)))) = None

abbrev pub three_of : Data → Option (Data × Data × Data)
three_of d = option_and_then three_items (as_array d)

-- four items and no more
abbrev pub four_items : Items → Option (Data × Data × Data × Data)
four_items no_items = None
four_items (item a no_items) = None
four_items (item a (item b no_items)) = None
four_items (item a (item b (item c no_items))) = None
four_items (item a (item b (item c (item d no_items)))) = Some (a, b, c, d)
four_items (item a (item b (item c (item d (item e more))))) = None

abbrev pub four_of : Data → Option (Data × Data × Data × Data)
four_of d = option_and_then four_items (as_array d)

-- ---- read by forms

-- what reads the only item
abbrev pub single_of : {A : Type 0} → (Data → Option A) → Data → Option A
single_of f d = option_and_then f (one_of d)

abbrev pub single_json : {A : Type 0} → (A → Data) → A → Data
single_json a x = array (item (a x) no_items)

-- what reads both
abbrev pub pair_of : {A B : Type 0} → (Data → Option A) → (Data → Option B) → Data → Option (A × B)
pair_of f g d = option_and_then (λ p. option_and_then (λ x. option_map (λ y. (x, y)) (g p.1)) (f p.0)) (two_of d)

abbrev pub pair_json : {A B : Type 0} → (A → Data) → (B → Data) → A × B → Data
pair_json a b p = array (item (a p.0) (item (b p.1) no_items))

-- what reads all three
abbrev pub triple_of : {A B C : Type 0} → (Data → Option A) → (Data → Option B) → (Data → Option C) → Data → Option (A × B × C)
triple_of f g h d = option_and_then (λ p. option_and_then (λ x. option_and_then (λ y. option_map (λ z. (x, y, z)) (h p.2)) (g p.1)) (f p.0)) (three_of d)

abbrev pub triple_json : {A B C : Type 0} → (A → Data) → (B → Data) → (C → Data) → A × B × C → Data
triple_json a b c p = array (item (a p.0) (item (b p.1) (item (c p.2) no_items)))

-- one number alone
abbrev pub constant_of : ℕ → Data → Option (Unit {0})
constant_of n d = option_map (λ _. tt) (number_of n n d)

-- a text that passes a test
abbrev pub text_of : (List ℕ → Bool) → Data → Option (List ℕ)
text_of test d = option_and_then (λ s. if test s then Some s else None) (as_str d)

-- what reads all four
abbrev pub quad_of : {A B C D : Type 0} → (Data → Option A) → (Data → Option B) → (Data → Option C) → (Data → Option D) → Data → Option (A × B × C × D)
quad_of f g h j d = option_and_then (λ p. option_and_then (λ x. option_and_then (λ y. option_and_then (λ z. option_map (λ w. (x, y, z, w)) (j p.3)) (h p.2)) (g p.1)) (f p.0)) (four_of d)

abbrev pub quad_json : {A B C D : Type 0} → (A → Data) → (B → Data) → (C → Data) → (D → Data) → A × B × C × D → Data
quad_json a b c e p = array (item (a p.0) (item (b p.1) (item (c p.2) (item (e p.3) no_items))))

-- a text that is the printed form of the value that it spells
abbrev pub printed_of : {A : Type 0} → (List ℕ → Option A) → (A → List ℕ) → Data → Option A
printed_of of text d = option_and_then (λ s. option_and_then (λ a. if bytes_eq (text a) s then Some a else None) (of s)) (as_str d)

-- the one, or else the other
abbrev pub or_else : {A B : Type 0} → Option A → Option B → Option (A ⊎ B)
or_else (Some x) other = Some (inl x)
or_else None other = option_map inr other

abbrev pub either_of : {A B : Type 0} → (Data → Option A) → (Data → Option B) → Data → Option (A ⊎ B)
either_of f g d = or_else (f d) (g d)

-- of either
abbrev pub either_json : {A B : Type 0} → (A → Data) → (B → Data) → A ⊎ B → Data
either_json a b (inl x) = a x
either_json a b (inr y) = b y

abbrev pub IsEither : {A B : Type 0} → (A → Type 0) → (B → Type 0) → A ⊎ B → Type 0
IsEither La Lb (inl x) = La x
IsEither La Lb (inr y) = Lb y

-- one text alone
abbrev pub word_of : List ℕ → Data → Option (Unit {0})
word_of word d = option_map (λ _. tt) (text_of (bytes_eq word) d)

-- five items and no more
abbrev pub five_items : Items → Option (Data × Data × Data × Data × Data)
five_items no_items = None
five_items (item a no_items) = None
five_items (item a (item b no_items)) = None
five_items (item a (item b (item c no_items))) = None
five_items (item a (item b (item c (item d no_items)))) = None
five_items (item a (item b (item c (item d (item e no_items))))) = Some (a, b, c, d, e)
five_items (item a (item b (item c (item d (item e (item f more)))))) = None

abbrev pub five_of : Data → Option (Data × Data × Data × Data × Data)
five_of d = option_and_then five_items (as_array d)

-- what reads all five
abbrev pub quint_of : {A B C D E : Type 0} → (Data → Option A) → (Data → Option B) → (Data → Option C) → (Data → Option D) → (Data → Option E) → Data → Option (A × B × C × D × E)
quint_of f g h j k d = option_and_then (λ p. option_and_then (λ x. option_and_then (λ y. option_and_then (λ z. option_and_then (λ w. option_map (λ v. (x, y, z, w, v)) (k p.4)) (j p.3)) (h p.2)) (g p.1)) (f p.0)) (five_of d)

abbrev pub quint_json : {A B C D E : Type 0} → (A → Data) → (B → Data) → (C → Data) → (D → Data) → (E → Data) → A × B × C × D × E → Data
quint_json a b c e i p = array (item (a p.0) (item (b p.1) (item (c p.2) (item (e p.3) (item (i p.4) no_items)))))
