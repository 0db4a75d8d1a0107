-- Look-ups among numbers of keys are look-ups among the keys.
use Rattle.std.proofs.Common.{◌≡◌, ℕ, Bool, true, false, cond, List, [], ◌∷◌, Option, None, Some, map, refl, sym, ap, ◌∙◌, subst}
use Rattle.std.specs.List.{All, filter}
use Rattle.std.specs.Option.{option_map, unwrap_or}
use Rattle.std.specs.Ordering.{nat_cmp}
use Rattle.std.specs.declared.cmp.Ordering.{Ordering}
use Rattle.std.proofs.lemmas.List.Elements.{All-cons, All-head, All-nil, All-tail}
use Rattle.keyed.specs.Ranges.{head_of, keys_of, last_of}
use Rattle.node_core.specs.Node.{NodeView}
use Rattle.node_map.specs.TreeNode.{Entries}
use Rattle.state_keys.specs.Numbering.{IsNumbering, IsNumberOf}
use Rattle.state_scan.specs.Listed.{listed}

none_some : {V : Type 0} {v : V} → Some v ≡ None → ⊥
none_some h = cc

some_is : {V : Type 0} {v w : V} → Some v ≡ Some w → v ≡ w
some_is h = cc

-- parts and ends of a list, and of what is read from its members
pub filter-map : {A B : Type 0} (f : A → B) (p : A → Bool) (q : B → Bool) (P : A → Type 0) → ((x : A) → P x → p x ≡ q (f x)) → (xs : List A) → All P xs → map f (filter p xs) ≡ filter q (map f xs)
filter-map f p q P same [] all = refl
filter-map f p q P same (x ∷ xs) all =
    ap (λ (b : Bool). map f (cond b (x ∷ filter p xs) (filter p xs))) (same x (All-head P x xs all)) ∙ mapped (q (f x)) (filter-map f p q P same xs (All-tail P x xs all))
  where
    mapped : (b : Bool) → map f (filter p xs) ≡ filter q (map f xs) → map f (cond b (x ∷ filter p xs) (filter p xs)) ≡ cond b (f x ∷ filter q (map f xs)) (filter q (map f xs))
    mapped true rest = ap (λ l. f x ∷ l) rest
    mapped false rest = rest

pub head-map : {A B : Type 0} (f : A → B) (xs : List A) → option_map f (head_of xs) ≡ head_of (map f xs)
head-map f [] = refl
head-map f (x ∷ xs) = refl

pub last-map : {A B : Type 0} (f : A → B) (xs : List A) → option_map f (last_of xs) ≡ last_of (map f xs)
last-map f [] = refl
last-map {A = A} f (x ∷ xs) = later (last_of xs) ∙ ap (λ o. Some (unwrap_or o (f x))) (last-map f xs)
  where
    later : (o : Option A) → option_map f (Some (unwrap_or o x)) ≡ Some (unwrap_or (option_map f o) (f x))
    later None = refl
    later (Some y) = refl

-- what is found is one of them
pub all-filter : {A : Type 0} (P : A → Type 0) (p : A → Bool) (xs : List A) → All P xs → All P (filter p xs)
all-filter P p [] all = all
all-filter P p (x ∷ xs) all = kept (p x) (all-filter P p xs (All-tail P x xs all))
  where
    kept : (b : Bool) → All P (filter p xs) → All P (cond b (x ∷ filter p xs) (filter p xs))
    kept true rest = All-cons P x (filter p xs) (All-head P x xs all) rest
    kept false rest = rest

pub head-is : {A : Type 0} (P : A → Type 0) (xs : List A) (x : A) → All P xs → Some x ≡ head_of xs → P x
head-is P [] x all is = absurd (none_some is)
head-is P (y ∷ ys) x all is = subst P (sym (some_is is)) (All-head P y ys all)

pub last-is : {A : Type 0} (P : A → Type 0) (xs : List A) (x : A) → All P xs → Some x ≡ last_of xs → P x
last-is P [] x all is = absurd (none_some is)
last-is {A = A} P (y ∷ ys) x all is = by (last_of ys) (λ there. last-is P ys x (All-tail P y ys all) there) is
  where
    by : (o : Option A) → (Some x ≡ o → P x) → Some x ≡ Some (unwrap_or o y) → P x
    by None later same = subst P (sym (some_is same)) (All-head P y ys all)
    by (Some z) later same = later same

-- numbers against the number of a key are as the keys against that key
module _ {K : Type 0} {cmp : K → K → Ordering} {Is : K → Type 0} {number : K → ℕ} {of : ℕ → K} (law : IsNumbering cmp Is number of) (k : K) (is : Is k) where
  order_of : (n : ℕ) → IsNumberOf Is number of n → nat_cmp n (number k) ≡ cmp (of n) k
  order_of n num = ap (λ (m : ℕ). nat_cmp m (number k)) (sym num.same) ∙ law.order (of n) k num.key is

  module _ (test : Ordering → Bool) where
    pub part_numbers : (ns : List ℕ) → All (IsNumberOf Is number of) ns → map of (filter (λ n. test (nat_cmp n (number k))) ns) ≡ filter (λ x. test (cmp x k)) (map of ns)
    part_numbers ns all = filter-map of (λ n. test (nat_cmp n (number k))) (λ x. test (cmp x k)) (IsNumberOf Is number of) (λ n num. ap test (order_of n num)) ns all

    pub part_listed : {T : Type 0} (es : Entries T) → All (λ e. IsNumberOf Is number of e.0) es → listed of (filter (λ e. test (nat_cmp e.0 (number k))) es) ≡ filter (λ e. test (cmp e.0 k)) (listed of es)
    part_listed {T} es all = filter-map (λ (e : ℕ × NodeView T). (of e.0, e.1.value)) (λ e. test (nat_cmp e.0 (number k))) (λ e. test (cmp e.0 k)) (λ e. IsNumberOf Is number of e.0) (λ e num. ap test (order_of e.0 num)) es all

-- the keys of what a map lists
pub keys_listed : {K T : Type 0} (of : ℕ → K) (es : Entries T) → map (λ e. of e.0) es ≡ keys_of (listed of es)
keys_listed of [] = refl
keys_listed of (e ∷ es) = ap (λ (l : List _). of e.0 ∷ l) (keys_listed of es)

pub listed_keys : {K T : Type 0} (of : ℕ → K) (es : Entries T) → map of (keys_of es) ≡ keys_of (listed of es)
listed_keys of [] = refl
listed_keys of (e ∷ es) = ap (λ (l : List _). of e.0 ∷ l) (listed_keys of es)

pub key_numbers : {T : Type 0} (P : ℕ → Type 0) (es : Entries T) → All (λ e. P e.0) es → All P (keys_of es)
key_numbers P [] all = All-nil P
key_numbers {T} P (e ∷ es) all =
    let Q : ℕ × NodeView T → Type 0 = λ e. P e.0 in
    All-cons P e.0 (keys_of es) (All-head Q e es all) (key_numbers P es (All-tail Q e es all))
