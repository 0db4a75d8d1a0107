-- What is found and put by place.
use Rattle.std.proofs.Common.{◌≡◌, ℕ, zero, suc, ◌+◌, ◌<◌, List, [], ◌∷◌, ◌++◌, Option, None, length, slice_get, refl, ap, sym, ◌∙◌, arith, length-append}
use Rattle.std.specs.Option.{option_map}
use Rattle.std.specs.Ordering.{nat_cmp}
use Rattle.std.specs.declared.cmp.Ordering.TheVariants.{Equal}
use Rattle.keyed.specs.Keyed.{at, put}
use Rattle.node_core.specs.Node.{NodeView}
use Rattle.node_map.specs.Change.{renewed}
use Rattle.node_map.specs.TreeNode.{Entries}
use Rattle.node_map.proofs.Order.{cmp-gt, cmp-same}
use Rattle.shared_list.specs.Positions.{AreCounted, HasLength, values_of}

length_values : {T : Type 0} (es : Entries T) → length (values_of es) ≡ length es
length_values [] = refl
length_values (e ∷ es) = ap suc (length_values es)

-- a list has as many items as there are places
pub length_is : {T : Type 0} (es : Entries T) (xs : List T) (n : ℕ) → HasLength n es → values_of es ≡ xs → n ≡ length xs
length_is es xs n is xs_are = sym is.length ∙ sym (length_values es) ∙ ap length xs_are

cmp_eq : (x y : ℕ) → x ≡ y → nat_cmp x y ≡ Equal
cmp_eq x y same = rw same (cmp-same y)

-- what stands under a place is the value there
at_place : {T : Type 0} (n k key : ℕ) (es : Entries T) → AreCounted n es → key ≡ n + k → option_map (λ (node : NodeView T). node.value) (at nat_cmp key es) ≡ slice_get (values_of es) k
at_place n k key [] counted is = refl
at_place n zero key (e ∷ es) counted is = let same : key ≡ e.0 = omega (arith, is, counted.0) in rw (cmp_eq key e.0 same) refl
at_place n (suc k) key (e ∷ es) counted is = let past : e.0 < key = omega (arith, is, counted.0) in rw (cmp-gt key e.0 past) (at_place (suc n) k key es counted.1 (omega (arith, is)))

pub found : {T : Type 0} (es : Entries T) (xs : List T) (n key place : ℕ) (o : Option (NodeView T)) → HasLength n es → values_of es ≡ xs → key ≡ place → o ≡ at nat_cmp key es → option_map (λ (node : NodeView T). node.value) o ≡ slice_get xs place
found es xs n key place o has xs_are is o_is = rw (o_is, ← xs_are) (at_place 0 place key es has.counted (omega (arith, is)))

-- nothing stands past the end, and what is put there comes last
at_end : {T : Type 0} (n k : ℕ) (es : Entries T) → AreCounted n es → k ≡ n + length es → at nat_cmp k es ≡ None
at_end n k [] counted end = refl
at_end n k (e ∷ es) counted end = let past : e.0 < k = omega (arith, end, counted.0) in rw (cmp-gt k e.0 past) (at_end (suc n) k es counted.1 (omega (arith, end)))

put_end : {T : Type 0} (n k : ℕ) (v : NodeView T) (es : Entries T) → AreCounted n es → k ≡ n + length es → put nat_cmp k v es ≡ es ++ (k, v) ∷ []
put_end n k v [] counted end = refl
put_end n k v (e ∷ es) counted end = let past : e.0 < k = omega (arith, end, counted.0) in rw (cmp-gt k e.0 past) (ap (λ r. e ∷ r) (put_end (suc n) k v es counted.1 (omega (arith, end))))

counted_more : {T : Type 0} (n k : ℕ) (v : NodeView T) (es : Entries T) → AreCounted n es → k ≡ n + length es → AreCounted n (es ++ (k, v) ∷ [])
counted_more n k v [] counted end = (omega (arith, end), tt)
counted_more n k v (e ∷ es) counted end = (counted.0, counted_more (suc n) k v es counted.1 (omega (arith, end)))

values_more : {T : Type 0} (k : ℕ) (v : NodeView T) (es : Entries T) → values_of (es ++ (k, v) ∷ []) ≡ values_of es ++ v.value ∷ []
values_more k v [] = refl
values_more k v (e ∷ es) = ap (λ r. e.1.value ∷ r) (values_more k v es)

length_more : {A : Type 0} (xs : List A) (x : A) → length (xs ++ x ∷ []) ≡ length xs + 1
length_more [] x = refl
length_more (y ∷ xs) x = omega (arith, length_more xs x)

pushed : {T : Type 0} (es es' : Entries T) (n key version : ℕ) (value : T) → HasLength n es → key ≡ n → es' ≡ put nat_cmp key (renewed version value (at nat_cmp key es)) es → es' ≡ es ++ (key, record { value = value; generation = version; born = version }) ∷ []
pushed es es' n key version value has key_is put_is =
    let end : key ≡ 0 + length es = omega (arith, has.length, key_is) in
    put_is ∙ ap (λ o. put nat_cmp key (renewed version value o) es) (at_end 0 key es has.counted end) ∙ put_end 0 key _ es has.counted end

-- a push keeps the places
pub pushed_places : {T : Type 0} (es es' : Entries T) (n key version : ℕ) (value : T) → HasLength n es → key ≡ n → es' ≡ put nat_cmp key (renewed version value (at nat_cmp key es)) es → HasLength (n + 1) es'
pushed_places es es' n key version value has key_is put_is =
    let is : es' ≡ es ++ (key, record { value = value; generation = version; born = version }) ∷ [] = pushed es es' n key version value has key_is put_is in
    rw is (record {
      counted = counted_more 0 key _ es has.counted (omega (arith, has.length, key_is));
      length = length_more es _ ∙ ap (λ m. m + 1) has.length;
    })

-- and adds the value at the end
pub pushed_values : {T : Type 0} (es es' : Entries T) (xs : List T) (n key version : ℕ) (value : T) → HasLength n es → values_of es ≡ xs → key ≡ n → es' ≡ put nat_cmp key (renewed version value (at nat_cmp key es)) es → values_of es' ≡ xs ++ value ∷ []
pushed_values es es' xs n key version value has xs_are key_is put_is = ap values_of (pushed es es' n key version value has key_is put_is) ∙ values_more key _ es ∙ ap (λ l. l ++ value ∷ []) xs_are

-- while something is left there is room for it
pub room_left : {A : Type 0} (list rest xs ys more : List A) (x : A) (top : ℕ) → list ++ rest ≡ xs ++ ys → rest ≡ x ∷ more → length xs + length ys < top → length list + 1 < top
room_left list rest xs ys more x top same left room =
    let total : length list + length rest ≡ length xs + length ys = sym (length-append list rest) ∙ ap length same ∙ length-append xs ys in
    let some : length rest ≡ suc (length more) = ap length left in
    omega (arith, total, some, room)
