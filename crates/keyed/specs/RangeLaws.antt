-- Laws of the parts of a list and of its ends.
use Rattle.std.proofs.Common.{◌≡◌, Bool, true, false, cond, List, [], ◌∷◌, ◌++◌, Option, None, Some, refl, ap, ◌∙◌}
use Rattle.std.specs.List.{All, filter}
use Rattle.std.specs.Option.{option_map, unwrap_or}
use Rattle.std.specs.Ordering.{is_le, is_ge, is_gt}
use Rattle.std.specs.declared.cmp.Ordering.{Ordering}
use Rattle.std.proofs.lemmas.List.Elements.{All-head, All-tail}
use Rattle.keyed.specs.Ranges.{head_of, last_of, keys_of, up_to, onward, past, keys_up_to, keys_onward, keys_past}

-- a list all of which, or none of which, passes
pub filter_all : {A : Type 0} (p : A → Bool) (xs : List A) → All (λ x. p x ≡ true) xs → filter p xs ≡ xs
filter_all p [] all = refl
filter_all p (x ∷ xs) all = rw (All-head (λ y. p y ≡ true) x xs all) (ap (λ ys. x ∷ ys) (filter_all p xs (All-tail (λ y. p y ≡ true) x xs all)))

pub filter_none : {A : Type 0} (p : A → Bool) (xs : List A) → All (λ x. p x ≡ false) xs → filter p xs ≡ []
filter_none p [] all = refl
filter_none p (x ∷ xs) all = rw (All-head (λ y. p y ≡ false) x xs all) (filter_none p xs (All-tail (λ y. p y ≡ false) x xs all))

-- the ends of two lists after one another
pub last_front : {A : Type 0} (xs ys : List A) → last_of ys ≡ None → last_of (xs ++ ys) ≡ last_of xs
last_front [] ys none = none
last_front (x ∷ xs) ys none = ap (λ o. Some (unwrap_or o x)) (last_front xs ys none)

pub last_back : {A : Type 0} {y : A} (xs ys : List A) → last_of ys ≡ Some y → last_of (xs ++ ys) ≡ Some y
last_back [] ys some = some
last_back (x ∷ xs) ys some = ap (λ o. Some (unwrap_or o x)) (last_back xs ys some)

-- the keys of a part are the part of the keys
keys_filter : {K V : Type 0} (p : K → Bool) (es : List (K × V)) → keys_of (filter (λ e. p e.0) es) ≡ filter p (keys_of es)
keys_filter p [] = refl
keys_filter p (e ∷ es) = keys_by (p e.0) (keys_filter p es)
  where
    keys_by : (b : Bool) → keys_of (filter (λ e. p e.0) es) ≡ filter p (keys_of es) → keys_of (cond b (e ∷ filter (λ e. p e.0) es) (filter (λ e. p e.0) es)) ≡ cond b (e.0 ∷ filter p (keys_of es)) (filter p (keys_of es))
    keys_by true rest = ap (λ ks. e.0 ∷ ks) rest
    keys_by false rest = rest

module _ {K V : Type 0} (cmp : K → K → Ordering) (k : K) (es : List (K × V)) where
  pub keys_of-up_to : keys_of (up_to cmp k es) ≡ keys_up_to cmp k (keys_of es)
  keys_of-up_to = keys_filter (λ x. is_le (cmp x k)) es

  pub keys_of-onward : keys_of (onward cmp k es) ≡ keys_onward cmp k (keys_of es)
  keys_of-onward = keys_filter (λ x. is_ge (cmp x k)) es

  pub keys_of-past : keys_of (past cmp k es) ≡ keys_past cmp k (keys_of es)
  keys_of-past = keys_filter (λ x. is_gt (cmp x k)) es

pub keys_of-head : {K V : Type 0} (es : List (K × V)) → option_map (λ e. e.0) (head_of es) ≡ head_of (keys_of es)
keys_of-head [] = refl
keys_of-head (e ∷ es) = refl

pub keys_of-last : {K V : Type 0} (es : List (K × V)) → option_map (λ e. e.0) (last_of es) ≡ last_of (keys_of es)
keys_of-last [] = refl
keys_of-last {K = K} {V = V} (e ∷ es) = later_key (last_of es) ∙ ap (λ o. Some (unwrap_or o e.0)) (keys_of-last es)
  where
    later_key : (o : Option (K × V)) → option_map (λ x. x.0) (Some (unwrap_or o e)) ≡ Some (unwrap_or (option_map (λ x. x.0) o) e.0)
    later_key None = refl
    later_key (Some x) = refl
