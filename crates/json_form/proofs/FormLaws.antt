-- The laws of forms: of numbers, of arrays of so many items, and of lists.
use Rattle.std.proofs.Common.{◌≡◌, ℕ, suc, ◌≤◌, ◌&&◌, nat_le, max, List, Option, None, Some, bytes_eq, ◌⊎◌, inl, inr, Bool, true, false, cond, refl, sym, ap, ◌∙◌, subst, arith}
use Rattle.std.specs.Prelude.{option_map}
use Rattle.std.proofs.lemmas.Slice.Eq.{bytes_eq-Decides}
use Rattle.std.proofs.lemmas.Bool.{and_parts, le-leb, leb-true}
use Rattle.std.proofs.lemmas.Option.{cond_some, none-some, option_and_then_some, same_Some}
use Rattle.serde_json.specs.Data.{Data, null, boolean, number, string, array, object, no_items, item, unsigned, negative, float, depth}
use Rattle.serde_json.specs.Find.{as_bool}
use Rattle.serde_json.specs.Written.{has_float}
use Rattle.json_form.specs.Arrays.{five_of, quint_of, quint_json, word_of, IsEither, either_json, either_of, or_else, printed_of, four_of, quad_of, quad_json, within, number_of, one_of, single_of, single_json, two_of, three_of, pair_of, pair_json, triple_of, triple_json, constant_of, text_of}
use Rattle.json_form.specs.Form.{Form}

-- ---- numbers

pub within-takes : (low high n m : ℕ) → within low high n ≡ Some m → (n ≡ m) × ((low ≤ m) × (m ≤ high))
within-takes low high n m h =
    let parts = cond_some (nat_le low n && nat_le n high) n m h in
    let both = and_parts (nat_le low n) (nat_le n high) parts.0 in
    let lower : low ≤ n = leb-true low n both.0 in
    let upper : n ≤ high = leb-true n high both.1 in
    (parts.1, (subst (λ k. low ≤ k) parts.1 lower, subst (λ k. k ≤ high) parts.1 upper))

pub within-again : (low high n : ℕ) → low ≤ n → n ≤ high → within low high n ≡ Some n
within-again low high n l h = rw (le-leb low n l, le-leb n high h)

number-takes : (low high : ℕ) (d : Data) (m : ℕ) → number_of low high d ≡ Some m → (number (unsigned m) ≡ d) × ((low ≤ m) × (m ≤ high))
number-takes low high null m h = absurd (none-some _ h)
number-takes low high (boolean b) m h = absurd (none-some _ h)
number-takes low high (string s) m h = absurd (none-some _ h)
number-takes low high (array ds) m h = absurd (none-some _ h)
number-takes low high (object ms) m h = absurd (none-some _ h)
number-takes low high (number (negative z)) m h = absurd (none-some _ h)
number-takes low high (number (float x)) m h = absurd (none-some _ h)
number-takes low high (number (unsigned n)) m h = let t = within-takes low high n m h in (ap (λ k. number (unsigned k)) (sym t.0), t.1)

pub number_form : (low high : ℕ) → Form 0 (number_of low high) (λ n. number (unsigned n)) (λ n. (low ≤ n) × (n ≤ high))
number_form low high = record {
  takes = number-takes low high;
  again = λ n legal. within-again low high n legal.0 legal.1;
  plain = λ n. refl;
  shallow = λ n. omega arith;
}

-- ---- arrays of one

one-takes : (d a : Data) → one_of d ≡ Some a → array (item a no_items) ≡ d
one-takes null a h = absurd (none-some _ h)
one-takes (boolean b) a h = absurd (none-some _ h)
one-takes (number n) a h = absurd (none-some _ h)
one-takes (string s) a h = absurd (none-some _ h)
one-takes (object ms) a h = absurd (none-some _ h)
one-takes (array no_items) a h = absurd (none-some _ h)
one-takes (array (item b no_items)) a h = ap (λ q. array (item q no_items)) (sym (same_Some _ _ h))
one-takes (array (item b (item c more))) a h = absurd (none-some _ h)

single-takes : {A : Type 0} {k : ℕ} {f : Data → Option A} {a : A → Data} {La : A → Type 0} → Form k f a La → (d : Data) (x : A) → single_of f d ≡ Some x → (single_json a x ≡ d) × La x
single-takes {A} {k} {f} {a} {La} one d x h = option_and_then_some _ (one_of d) x h (λ q is found.
    let first = one.takes q x found in
    (ap (λ j. array (item j no_items)) first.0 ∙ one-takes d q is, first.1))

pub single_form : {A : Type 0} {k : ℕ} {f : Data → Option A} {a : A → Data} {La : A → Type 0} → Form k f a La → Form (suc k) (single_of f) (single_json a) La
single_form {A} {k} {f} {a} {La} one = record {
  takes = single-takes one;
  again = λ x legal. one.again x legal;
  plain = λ x. rw (one.plain x);
  shallow = λ x. let h = one.shallow x in omega (arith, h);
}

-- ---- arrays of two

two-takes : (d : Data) (p : Data × Data) → two_of d ≡ Some p → array (item p.0 (item p.1 no_items)) ≡ d
two-takes null p h = absurd (none-some _ h)
two-takes (boolean b) p h = absurd (none-some _ h)
two-takes (number n) p h = absurd (none-some _ h)
two-takes (string s) p h = absurd (none-some _ h)
two-takes (object ms) p h = absurd (none-some _ h)
two-takes (array no_items) p h = absurd (none-some _ h)
two-takes (array (item a no_items)) p h = absurd (none-some _ h)
two-takes (array (item a (item b no_items))) p h = ap (λ q. array (item q.0 (item q.1 no_items))) (sym (same_Some _ _ h))
two-takes (array (item a (item b (item c more)))) p h = absurd (none-some _ h)

pub map_some : {A B : Type 0} (f : A → B) (o : Option A) (y : B) → option_map f o ≡ Some y → (x : A) × (o ≡ Some x) × (f x ≡ y)
map_some f None y h = absurd (none-some _ h)
map_some f (Some x) y h = (x, refl, same_Some _ _ h)

pub max_within : (a b k : ℕ) → a ≤ k → b ≤ k → max a b ≤ k
max_within a b k h l = omega (arith, h, l)

pair-takes : {A B : Type 0} {k : ℕ} {f : Data → Option A} {a : A → Data} {La : A → Type 0} {g : Data → Option B} {b : B → Data} {Lb : B → Type 0} → Form k f a La → Form k g b Lb
    → (d : Data) (p : A × B) → pair_of f g d ≡ Some p → (pair_json a b p ≡ d) × (La p.0 × Lb p.1)
pair-takes {A} {B} {k} {f} {a} {La} {g} {b} {Lb} one other d p h =
    option_and_then_some _ (two_of d) p h (λ q is inner. option_and_then_some _ (f q.0) p inner (λ x found last.
    let end = map_some _ (g q.1) p last in
    let first = one.takes q.0 x found in
    let second = other.takes q.1 end.0 end.1 in
    let same : (x, end.0) ≡ p = end.2 in
    let json : pair_json a b (x, end.0) ≡ d = ap (λ j. array (item j (item (b end.0) no_items))) first.0 ∙ ap (λ j. array (item q.0 (item j no_items))) second.0 ∙ two-takes d q is in
    subst (λ (r : A × B). (pair_json a b r ≡ d) × (La r.0 × Lb r.1)) same (json, (first.1, second.1))))

pub pair_form : {A B : Type 0} {k : ℕ} {f : Data → Option A} {a : A → Data} {La : A → Type 0} {g : Data → Option B} {b : B → Data} {Lb : B → Type 0} → Form k f a La → Form k g b Lb
    → Form (suc k) (pair_of f g) (pair_json a b) (λ p. La p.0 × Lb p.1)
pair_form {A} {B} {k} {f} {a} {La} {g} {b} {Lb} one other = record {
  takes = pair-takes one other;
  again = λ p legal. rw (one.again p.0 legal.0, other.again p.1 legal.1);
  plain = λ p. rw (one.plain p.0, other.plain p.1);
  shallow = λ p.
      let zero_here : 0 ≤ k = omega arith in
      let inner : max (depth (a p.0)) (max (depth (b p.1)) 0) ≤ k = max_within _ _ k (one.shallow p.0) (max_within _ 0 k (other.shallow p.1) zero_here) in
      omega (arith, inner);
}

-- ---- arrays of three

three-takes : (d : Data) (p : Data × Data × Data) → three_of d ≡ Some p → array (item p.0 (item p.1 (item p.2 no_items))) ≡ d
three-takes null p h = absurd (none-some _ h)
three-takes (boolean b) p h = absurd (none-some _ h)
three-takes (number n) p h = absurd (none-some _ h)
three-takes (string s) p h = absurd (none-some _ h)
three-takes (object ms) p h = absurd (none-some _ h)
three-takes (array no_items) p h = absurd (none-some _ h)
three-takes (array (item a no_items)) p h = absurd (none-some _ h)
three-takes (array (item a (item b no_items))) p h = absurd (none-some _ h)
three-takes (array (item a (item b (item c no_items)))) p h = ap (λ q. array (item q.0 (item q.1 (item q.2 no_items)))) (sym (same_Some _ _ h))
three-takes (array (item a (item b (item c (item d more))))) p h = absurd (none-some _ h)

triple-takes : {A B C : Type 0} {k : ℕ} {f : Data → Option A} {a : A → Data} {La : A → Type 0} {g : Data → Option B} {b : B → Data} {Lb : B → Type 0} {h : Data → Option C} {c : C → Data} {Lc : C → Type 0} → Form k f a La → Form k g b Lb → Form k h c Lc
    → (d : Data) (p : A × B × C) → triple_of f g h d ≡ Some p → (triple_json a b c p ≡ d) × (La p.0 × Lb p.1 × Lc p.2)
triple-takes {A} {B} {C} {k} {f} {a} {La} {g} {b} {Lb} {h} {c} {Lc} one two three d p e =
    option_and_then_some _ (three_of d) p e (λ q is inner. option_and_then_some _ (f q.0) p inner (λ x found inner2. option_and_then_some _ (g q.1) p inner2 (λ y found2 last.
    let end = map_some _ (h q.2) p last in
    let first = one.takes q.0 x found in
    let second = two.takes q.1 y found2 in
    let third = three.takes q.2 end.0 end.1 in
    let same : (x, y, end.0) ≡ p = end.2 in
    let json : triple_json a b c (x, y, end.0) ≡ d = ap (λ j. array (item j (item (b y) (item (c end.0) no_items)))) first.0 ∙ ap (λ j. array (item q.0 (item j (item (c end.0) no_items)))) second.0 ∙ ap (λ j. array (item q.0 (item q.1 (item j no_items)))) third.0 ∙ three-takes d q is in
    subst (λ (r : A × B × C). (triple_json a b c r ≡ d) × (La r.0 × Lb r.1 × Lc r.2)) same (json, (first.1, second.1, third.1)))))

pub triple_form : {A B C : Type 0} {k : ℕ} {f : Data → Option A} {a : A → Data} {La : A → Type 0} {g : Data → Option B} {b : B → Data} {Lb : B → Type 0} {h : Data → Option C} {c : C → Data} {Lc : C → Type 0} → Form k f a La → Form k g b Lb → Form k h c Lc
    → Form (suc k) (triple_of f g h) (triple_json a b c) (λ p. La p.0 × Lb p.1 × Lc p.2)
triple_form {A} {B} {C} {k} {f} {a} {La} {g} {b} {Lb} {h} {c} {Lc} one two three = record {
  takes = triple-takes one two three;
  again = λ p legal. rw (one.again p.0 legal.0, two.again p.1 legal.1, three.again p.2 legal.2);
  plain = λ p. rw (one.plain p.0, two.plain p.1, three.plain p.2);
  shallow = λ p.
      let zero_here : 0 ≤ k = omega arith in
      let inner : max (depth (a p.0)) (max (depth (b p.1)) (max (depth (c p.2)) 0)) ≤ k = max_within _ _ k (one.shallow p.0) (max_within _ _ k (two.shallow p.1) (max_within _ 0 k (three.shallow p.2) zero_here)) in
      omega (arith, inner);
}

-- ---- another type, and other depths

-- values of a type that correspond one to one
pub turned : {A B : Type 0} {k : ℕ} {f : Data → Option A} {a : A → Data} {La : A → Type 0} → Form k f a La → (to : A → B) (back : B → A) → ((x : A) → back (to x) ≡ x) → ((y : B) → to (back y) ≡ y)
    → Form k (λ d. option_map to (f d)) (λ y. a (back y)) (λ y. La (back y))
turned {A} {B} {k} {f} {a} {La} one to back there here = record {
  takes = λ d y h.
      let end = map_some to (f d) y h in
      let first = one.takes d end.0 end.1 in
      let same : end.0 ≡ back y = sym (there end.0) ∙ ap back end.2 in
      subst (λ x. (a x ≡ d) × La x) same first;
  again = λ y legal. ap (option_map to) (one.again (back y) legal) ∙ ap Some (here y);
  plain = λ y. one.plain (back y);
  shallow = λ y. one.shallow (back y);
}

pub deeper : {A : Type 0} {k : ℕ} {f : Data → Option A} {a : A → Data} {La : A → Type 0} → Form k f a La → (m : ℕ) → k ≤ m → Form m f a La
deeper {A} {k} {f} {a} {La} one m more = record { takes = one.takes; again = one.again; plain = one.plain; shallow = λ x. let h = one.shallow x in omega (arith, h, more) }

boolean-takes : (d : Data) (b : Bool) → as_bool d ≡ Some b → (boolean b ≡ d) × Unit {0}
boolean-takes null b h = absurd (none-some _ h)
boolean-takes (boolean c) b h = (ap boolean (sym (same_Some _ _ h)), tt)
boolean-takes (number n) b h = absurd (none-some _ h)
boolean-takes (string s) b h = absurd (none-some _ h)
boolean-takes (array ds) b h = absurd (none-some _ h)
boolean-takes (object ms) b h = absurd (none-some _ h)

pub boolean_form : Form 0 as_bool boolean (λ b. Unit {0})
boolean_form = record { takes = boolean-takes; again = λ b legal. refl; plain = λ b. refl; shallow = λ b. omega arith }

-- one number alone
pub constant_form : (n : ℕ) → Form 0 (constant_of n) (λ _. number (unsigned n)) (λ _. Unit {0})
constant_form n = record {
  takes = λ d a h. let end = map_some _ (number_of n n d) a h in let t = number-takes n n d end.0 end.1 in let same : end.0 ≡ n = omega (arith, t.1.0, t.1.1) in (ap (λ m. number (unsigned m)) (sym same) ∙ t.0, tt);
  again = λ a legal. let l : n ≤ n = omega arith in rw (within-again n n n l l);
  plain = λ a. refl;
  shallow = λ a. omega arith;
}

-- a text that passes a test
text-takes : (test : List ℕ → Bool) (d : Data) (s : List ℕ) → text_of test d ≡ Some s → (string s ≡ d) × (test s ≡ true)
text-takes test null s h = absurd (none-some _ h)
text-takes test (boolean b) s h = absurd (none-some _ h)
text-takes test (number n) s h = absurd (none-some _ h)
text-takes test (array ds) s h = absurd (none-some _ h)
text-takes test (object ms) s h = absurd (none-some _ h)
text-takes test (string t) s h = let parts = cond_some (test t) t s h in (ap string (sym parts.1), ap test (sym parts.1) ∙ parts.0)

pub text_form : (test : List ℕ → Bool) → Form 0 (text_of test) string (λ s. test s ≡ true)
text_form test = record { takes = text-takes test; again = λ s legal. rw legal; plain = λ s. refl; shallow = λ s. omega arith }

-- ---- arrays of four

four-takes : (d : Data) (p : Data × Data × Data × Data) → four_of d ≡ Some p → array (item p.0 (item p.1 (item p.2 (item p.3 no_items)))) ≡ d
four-takes null p h = absurd (none-some _ h)
four-takes (boolean b) p h = absurd (none-some _ h)
four-takes (number n) p h = absurd (none-some _ h)
four-takes (string s) p h = absurd (none-some _ h)
four-takes (object ms) p h = absurd (none-some _ h)
four-takes (array no_items) p h = absurd (none-some _ h)
four-takes (array (item a no_items)) p h = absurd (none-some _ h)
four-takes (array (item a (item b no_items))) p h = absurd (none-some _ h)
four-takes (array (item a (item b (item c no_items)))) p h = absurd (none-some _ h)
four-takes (array (item a (item b (item c (item d no_items))))) p h = ap (λ q. array (item q.0 (item q.1 (item q.2 (item q.3 no_items))))) (sym (same_Some _ _ h))
four-takes (array (item a (item b (item c (item d (item e more)))))) p h = absurd (none-some _ h)

quad-takes : {A B C D : Type 0} {k : ℕ} {f : Data → Option A} {a : A → Data} {La : A → Type 0} {g : Data → Option B} {b : B → Data} {Lb : B → Type 0} {h : Data → Option C} {c : C → Data} {Lc : C → Type 0} {j : Data → Option D} {e : D → Data} {Le : D → Type 0} → Form k f a La → Form k g b Lb → Form k h c Lc → Form k j e Le
    → (d : Data) (p : A × B × C × D) → quad_of f g h j d ≡ Some p → (quad_json a b c e p ≡ d) × (La p.0 × Lb p.1 × Lc p.2 × Le p.3)
quad-takes {A} {B} {C} {D} {k} {f} {a} {La} {g} {b} {Lb} {h} {c} {Lc} {j} {e} {Le} one two three four d p is =
    option_and_then_some _ (four_of d) p is (λ q is inner. option_and_then_some _ (f q.0) p inner (λ x found inner2. option_and_then_some _ (g q.1) p inner2 (λ y found2 inner3. option_and_then_some _ (h q.2) p inner3 (λ z found3 last.
    let end = map_some _ (j q.3) p last in
    let first = one.takes q.0 x found in
    let second = two.takes q.1 y found2 in
    let third = three.takes q.2 z found3 in
    let fourth = four.takes q.3 end.0 end.1 in
    let same : (x, y, z, end.0) ≡ p = end.2 in
    let json : quad_json a b c e (x, y, z, end.0) ≡ d = ap (λ v. array (item v (item (b y) (item (c z) (item (e end.0) no_items))))) first.0 ∙ ap (λ v. array (item q.0 (item v (item (c z) (item (e end.0) no_items))))) second.0 ∙ ap (λ v. array (item q.0 (item q.1 (item v (item (e end.0) no_items))))) third.0 ∙ ap (λ v. array (item q.0 (item q.1 (item q.2 (item v no_items))))) fourth.0 ∙ four-takes d q is in
    subst (λ (r : A × B × C × D). (quad_json a b c e r ≡ d) × (La r.0 × Lb r.1 × Lc r.2 × Le r.3)) same (json, (first.1, second.1, third.1, fourth.1))))))

pub quad_form : {A B C D : Type 0} {k : ℕ} {f : Data → Option A} {a : A → Data} {La : A → Type 0} {g : Data → Option B} {b : B → Data} {Lb : B → Type 0} {h : Data → Option C} {c : C → Data} {Lc : C → Type 0} {j : Data → Option D} {e : D → Data} {Le : D → Type 0} → Form k f a La → Form k g b Lb → Form k h c Lc → Form k j e Le
    → Form (suc k) (quad_of f g h j) (quad_json a b c e) (λ p. La p.0 × Lb p.1 × Lc p.2 × Le p.3)
quad_form {A} {B} {C} {D} {k} {f} {a} {La} {g} {b} {Lb} {h} {c} {Lc} {j} {e} {Le} one two three four = record {
  takes = quad-takes one two three four;
  again = λ p legal. rw (one.again p.0 legal.0, two.again p.1 legal.1, three.again p.2 legal.2, four.again p.3 legal.3);
  plain = λ p. rw (one.plain p.0, two.plain p.1, three.plain p.2, four.plain p.3);
  shallow = λ p.
      let zero_here : 0 ≤ k = omega arith in
      let inner : max (depth (a p.0)) (max (depth (b p.1)) (max (depth (c p.2)) (max (depth (e p.3)) 0))) ≤ k = max_within _ _ k (one.shallow p.0) (max_within _ _ k (two.shallow p.1) (max_within _ _ k (three.shallow p.2) (max_within _ 0 k (four.shallow p.3) zero_here))) in
      omega (arith, inner);
}

-- the same legal values, said in other words
pub legally : {A : Type 0} {k : ℕ} {f : Data → Option A} {a : A → Data} {La : A → Type 0} → Form k f a La → (Is : A → Type 0) → ((x : A) → La x → Is x) → ((x : A) → Is x → La x) → Form k f a Is
legally {A} {k} {f} {a} {La} one Is there back = record {
  takes = λ d x h. let t = one.takes d x h in (t.0, there x t.1);
  again = λ x is. one.again x (back x is);
  plain = one.plain;
  shallow = one.shallow;
}

-- the same text, said in other words
pub reworded : {A : Type 0} {k : ℕ} {f : Data → Option A} {a : A → Data} {La : A → Type 0} → Form k f a La → (b : A → Data) → ((x : A) → a x ≡ b x) → Form k f b La
reworded {A} {k} {f} {a} {La} one b same = record {
  takes = λ d x h. let t = one.takes d x h in (sym (same x) ∙ t.0, t.1);
  again = λ x legal. ap f (sym (same x)) ∙ one.again x legal;
  plain = λ x. ap has_float (sym (same x)) ∙ one.plain x;
  shallow = λ x. subst (λ d. depth d ≤ k) (same x) (one.shallow x);
}

-- ---- printed texts

printed-takes : {A : Type 0} (of : List ℕ → Option A) (text : A → List ℕ) (d : Data) (a : A) → printed_of of text d ≡ Some a → (string (text a) ≡ d) × (of (text a) ≡ Some a)
printed-takes of text null a h = absurd (none-some _ h)
printed-takes of text (boolean b) a h = absurd (none-some _ h)
printed-takes of text (number n) a h = absurd (none-some _ h)
printed-takes of text (array ds) a h = absurd (none-some _ h)
printed-takes of text (object ms) a h = absurd (none-some _ h)
printed-takes {A} of text (string s) a h = option_and_then_some _ (of s) a h (λ x spelled last.
    let parts = cond_some (bytes_eq (text x) s) x a last in
    let same : text x ≡ s = (bytes_eq-Decides (text x) s).0 parts.0 in
    let back : of (text x) ≡ Some x = ap of same ∙ spelled in
    subst (λ y. (string (text y) ≡ string s) × (of (text y) ≡ Some y)) parts.1 (ap string same, back))

-- the printed forms of those values that their own printed forms spell
pub printed_form : {A : Type 0} (of : List ℕ → Option A) (text : A → List ℕ) → Form 0 (printed_of of text) (λ a. string (text a)) (λ a. of (text a) ≡ Some a)
printed_form {A} of text = record {
  takes = printed-takes of text;
  again = λ a legal. rw legal (ap (λ b. cond b (Some a) None) ((bytes_eq-Decides (text a) (text a)).1 refl));
  plain = λ a. refl;
  shallow = λ a. omega arith;
}

-- ---- one of two forms

either-takes : {A B : Type 0} {k : ℕ} {f : Data → Option A} {a : A → Data} {La : A → Type 0} {g : Data → Option B} {b : B → Data} {Lb : B → Type 0} → Form k f a La → Form k g b Lb
    → (d : Data) (o : Option A) → f d ≡ o → (z : A ⊎ B) → or_else o (g d) ≡ Some z → (either_json a b z ≡ d) × IsEither La Lb z
either-takes {A} {B} {k} {f} {a} {La} {g} {b} {Lb} one other d (Some x) is z h = subst (λ w. (either_json a b w ≡ d) × IsEither La Lb w) (same_Some _ _ h) (one.takes d x is)
either-takes {A} {B} {k} {f} {a} {La} {g} {b} {Lb} one other d None is z h =
    let end = map_some _ (g d) z h in
    subst (λ w. (either_json a b w ≡ d) × IsEither La Lb w) end.2 (other.takes d end.0 end.1)

either-again : {A B : Type 0} {k : ℕ} {f : Data → Option A} {a : A → Data} {La : A → Type 0} {g : Data → Option B} {b : B → Data} {Lb : B → Type 0} → Form k f a La → Form k g b Lb → ((y : B) → Lb y → f (b y) ≡ None)
    → (z : A ⊎ B) → IsEither La Lb z → either_of f g (either_json a b z) ≡ Some z
either-again {A} {B} {k} {f} {a} {La} {g} {b} {Lb} one other apart (inl x) legal = ap (λ o. or_else o (g (a x))) (one.again x legal)
either-again {A} {B} {k} {f} {a} {La} {g} {b} {Lb} one other apart (inr y) legal = ap (λ o. or_else o (g (b y))) (apart y legal) ∙ ap (option_map inr) (other.again y legal)

either-plain : {A B : Type 0} {k : ℕ} {f : Data → Option A} {a : A → Data} {La : A → Type 0} {g : Data → Option B} {b : B → Data} {Lb : B → Type 0} → Form k f a La → Form k g b Lb → (z : A ⊎ B) → has_float (either_json a b z) ≡ false
either-plain one other (inl x) = one.plain x
either-plain one other (inr y) = other.plain y

either-shallow : {A B : Type 0} {k : ℕ} {f : Data → Option A} {a : A → Data} {La : A → Type 0} {g : Data → Option B} {b : B → Data} {Lb : B → Type 0} → Form k f a La → Form k g b Lb → (z : A ⊎ B) → depth (either_json a b z) ≤ k
either-shallow one other (inl x) = one.shallow x
either-shallow one other (inr y) = other.shallow y

-- where nothing of the second form is read by the first
pub either_form : {A B : Type 0} {k : ℕ} {f : Data → Option A} {a : A → Data} {La : A → Type 0} {g : Data → Option B} {b : B → Data} {Lb : B → Type 0} → Form k f a La → Form k g b Lb → ((y : B) → Lb y → f (b y) ≡ None)
    → Form k (either_of f g) (either_json a b) (IsEither La Lb)
either_form {A} {B} {k} {f} {a} {La} {g} {b} {Lb} one other apart = record {
  takes = λ d z h. either-takes one other d (f d) refl z h;
  again = either-again one other apart;
  plain = either-plain one other;
  shallow = either-shallow one other;
}

-- values of a type that correspond to the legal ones
pub turned_where : {A B : Type 0} {k : ℕ} {f : Data → Option A} {a : A → Data} {La : A → Type 0} → Form k f a La → (to : A → B) (back : B → A) → ((x : A) → La x → back (to x) ≡ x) → ((y : B) → to (back y) ≡ y)
    → Form k (λ d. option_map to (f d)) (λ y. a (back y)) (λ y. La (back y))
turned_where {A} {B} {k} {f} {a} {La} one to back there here = record {
  takes = λ d y h.
      let end = map_some to (f d) y h in
      let first = one.takes d end.0 end.1 in
      let same : end.0 ≡ back y = sym (there end.0 first.1) ∙ ap back end.2 in
      subst (λ x. (a x ≡ d) × La x) same first;
  again = λ y legal. ap (option_map to) (one.again (back y) legal) ∙ ap Some (here y);
  plain = λ y. one.plain (back y);
  shallow = λ y. one.shallow (back y);
}

-- one text alone
pub word_form : (word : List ℕ) → Form 0 (word_of word) (λ _. string word) (λ _. Unit {0})
word_form word = legally (turned_where (text_form (bytes_eq word)) (λ _. tt) (λ _. word) (λ s legal. (bytes_eq-Decides word s).0 legal) (λ y. refl)) (λ _. Unit {0}) (λ x l. tt) (λ x l. (bytes_eq-Decides word word).1 refl)

-- ---- arrays of five

five-takes : (d : Data) (p : Data × Data × Data × Data × Data) → five_of d ≡ Some p → array (item p.0 (item p.1 (item p.2 (item p.3 (item p.4 no_items))))) ≡ d
five-takes null p h = absurd (none-some _ h)
five-takes (boolean b) p h = absurd (none-some _ h)
five-takes (number n) p h = absurd (none-some _ h)
five-takes (string s) p h = absurd (none-some _ h)
five-takes (object ms) p h = absurd (none-some _ h)
five-takes (array no_items) p h = absurd (none-some _ h)
five-takes (array (item a no_items)) p h = absurd (none-some _ h)
five-takes (array (item a (item b no_items))) p h = absurd (none-some _ h)
five-takes (array (item a (item b (item c no_items)))) p h = absurd (none-some _ h)
five-takes (array (item a (item b (item c (item d no_items))))) p h = absurd (none-some _ h)
five-takes (array (item a (item b (item c (item d (item e no_items)))))) p h = ap (λ q. array (item q.0 (item q.1 (item q.2 (item q.3 (item q.4 no_items)))))) (sym (same_Some _ _ h))
five-takes (array (item a (item b (item c (item d (item e (item f more))))))) p h = absurd (none-some _ h)

quint-takes : {A B C D E : Type 0} {n : ℕ} {f : Data → Option A} {a : A → Data} {La : A → Type 0} {g : Data → Option B} {b : B → Data} {Lb : B → Type 0} {h : Data → Option C} {c : C → Data} {Lc : C → Type 0} {j : Data → Option D} {e : D → Data} {Le : D → Type 0} {k : Data → Option E} {i : E → Data} {Li : E → Type 0}
    → Form n f a La → Form n g b Lb → Form n h c Lc → Form n j e Le → Form n k i Li
    → (d : Data) (p : A × B × C × D × E) → quint_of f g h j k d ≡ Some p → (quint_json a b c e i p ≡ d) × (La p.0 × Lb p.1 × Lc p.2 × Le p.3 × Li p.4)
quint-takes {A} {B} {C} {D} {E} {n} {f} {a} {La} {g} {b} {Lb} {h} {c} {Lc} {j} {e} {Le} {k} {i} {Li} one two three four last d p is =
    option_and_then_some _ (five_of d) p is (λ q is inner. option_and_then_some _ (f q.0) p inner (λ x found inner2. option_and_then_some _ (g q.1) p inner2 (λ y found2 inner3. option_and_then_some _ (h q.2) p inner3 (λ z found3 inner4. option_and_then_some _ (j q.3) p inner4 (λ w found4 inner5.
    let end = map_some _ (k q.4) p inner5 in
    let first = one.takes q.0 x found in
    let second = two.takes q.1 y found2 in
    let third = three.takes q.2 z found3 in
    let fourth = four.takes q.3 w found4 in
    let fifth = last.takes q.4 end.0 end.1 in
    let same : (x, y, z, w, end.0) ≡ p = end.2 in
    let json : quint_json a b c e i (x, y, z, w, end.0) ≡ d =
    ap (λ v. array (item v (item (b y) (item (c z) (item (e w) (item (i end.0) no_items)))))) first.0
    ∙ ap (λ v. array (item q.0 (item v (item (c z) (item (e w) (item (i end.0) no_items)))))) second.0
    ∙ ap (λ v. array (item q.0 (item q.1 (item v (item (e w) (item (i end.0) no_items)))))) third.0
    ∙ ap (λ v. array (item q.0 (item q.1 (item q.2 (item v (item (i end.0) no_items)))))) fourth.0
    ∙ ap (λ v. array (item q.0 (item q.1 (item q.2 (item q.3 (item v no_items)))))) fifth.0
    ∙ five-takes d q is in
    subst (λ (r : A × B × C × D × E). (quint_json a b c e i r ≡ d) × (La r.0 × Lb r.1 × Lc r.2 × Le r.3 × Li r.4)) same (json, (first.1, second.1, third.1, fourth.1, fifth.1)))))))

pub quint_form : {A B C D E : Type 0} {n : ℕ} {f : Data → Option A} {a : A → Data} {La : A → Type 0} {g : Data → Option B} {b : B → Data} {Lb : B → Type 0} {h : Data → Option C} {c : C → Data} {Lc : C → Type 0} {j : Data → Option D} {e : D → Data} {Le : D → Type 0} {k : Data → Option E} {i : E → Data} {Li : E → Type 0}
    → Form n f a La → Form n g b Lb → Form n h c Lc → Form n j e Le → Form n k i Li
    → Form (suc n) (quint_of f g h j k) (quint_json a b c e i) (λ p. La p.0 × Lb p.1 × Lc p.2 × Le p.3 × Li p.4)
quint_form {A} {B} {C} {D} {E} {n} {f} {a} {La} {g} {b} {Lb} {h} {c} {Lc} {j} {e} {Le} {k} {i} {Li} one two three four last = record {
  takes = quint-takes one two three four last;
  again = λ p legal. rw (one.again p.0 legal.0, two.again p.1 legal.1, three.again p.2 legal.2, four.again p.3 legal.3, last.again p.4 legal.4);
  plain = λ p. rw (one.plain p.0, two.plain p.1, three.plain p.2, four.plain p.3, last.plain p.4);
  shallow = λ p.
      let zero_here : 0 ≤ n = omega arith in
      let inner : max (depth (a p.0)) (max (depth (b p.1)) (max (depth (c p.2)) (max (depth (e p.3)) (max (depth (i p.4)) 0)))) ≤ n = max_within _ _ n (one.shallow p.0) (max_within _ _ n (two.shallow p.1) (max_within _ _ n (three.shallow p.2) (max_within _ _ n (four.shallow p.3) (max_within _ 0 n (last.shallow p.4) zero_here)))) in
      omega (arith, inner);
}
