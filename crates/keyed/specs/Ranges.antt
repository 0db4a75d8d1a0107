-- Parts of a list by a bound on its keys, and the ends of a list.
use Rattle.std.specs.Prelude.{Option, None, Some, List, [], ◌∷◌, filter, map, unwrap_or}
use Rattle.std.specs.Ordering.{is_le, is_ge, is_gt}
use Rattle.std.specs.declared.cmp.Ordering.{Ordering}

abbrev pub head_of : {A : Type 0} → List A → Option A
head_of [] = None
head_of (x ∷ xs) = Some x

abbrev pub last_of : {A : Type 0} → List A → Option A
last_of [] = None
last_of (x ∷ xs) = Some (unwrap_or (last_of xs) x)

-- the keys of a list of entries
abbrev pub keys_of : {K V : Type 0} → List (K × V) → List K
keys_of es = map (λ e. e.0) es

-- the entries whose key isn't after the bound
abbrev pub up_to : {K V : Type 0} → (K → K → Ordering) → K → List (K × V) → List (K × V)
up_to cmp k es = filter (λ e. is_le (cmp e.0 k)) es

-- the entries whose key isn't before the bound
abbrev pub onward : {K V : Type 0} → (K → K → Ordering) → K → List (K × V) → List (K × V)
onward cmp k es = filter (λ e. is_ge (cmp e.0 k)) es

-- the entries whose key is after the bound
abbrev pub past : {K V : Type 0} → (K → K → Ordering) → K → List (K × V) → List (K × V)
past cmp k es = filter (λ e. is_gt (cmp e.0 k)) es

-- the same of keys
abbrev pub keys_up_to : {K : Type 0} → (K → K → Ordering) → K → List K → List K
keys_up_to cmp k ks = filter (λ x. is_le (cmp x k)) ks

abbrev pub keys_onward : {K : Type 0} → (K → K → Ordering) → K → List K → List K
keys_onward cmp k ks = filter (λ x. is_ge (cmp x k)) ks

abbrev pub keys_past : {K : Type 0} → (K → K → Ordering) → K → List K → List K
keys_past cmp k ks = filter (λ x. is_gt (cmp x k)) ks
