-- What is left of a list of known length, one step on.
use Rattle.std.proofs.Common.{◌≡◌, ◌∙◌, ◌<◌, ◌≤◌, ◌-◌, ◌+◌, ℕ, suc, List, [], ◌∷◌, ◌++◌, map, None, sym, ap, ap₂, arith, append_assoc, append-nil}
use Rattle.std.specs.List.{range_with_len, flat_map}
use Rattle.net_types.specs.declared.hop.Hop.{Hop}
use Rattle.net_types.specs.declared.ip.Ip.{Ip}
use Rattle.work_gen.specs.Values.{quad, hops_from}

abbrev pub bare_hop : Ip → Hop
bare_hop ip = record { ip = ip; intf = None }

-- one more item, before what is left
with_item : {A : Type 0} (made next : List A) (x : A) (left : List A) → next ≡ made ++ x ∷ [] → next ++ left ≡ made ++ x ∷ left
with_item made next x left is = ap (λ xs. xs ++ left) is ∙ append_assoc made (x ∷ []) left

-- one more hop
pub hops_more : (made next : List Hop) (n i b d : ℕ) (ip : Ip) → i < n → next ≡ made ++ bare_hop ip ∷ [] → ip ≡ quad 10 b 0 (d + i)
    → next ++ hops_from (n - (i + 1)) b (d + (i + 1)) ≡ made ++ hops_from (n - i) b (d + i)
hops_more made next n i b d ip lt is here =
    let fewer : n - i ≡ suc (n - (i + 1)) = omega (arith, lt) in
    let on : d + (i + 1) ≡ d + i + 1 = omega arith in
    with_item made next (bare_hop ip) (hops_from (n - (i + 1)) b (d + (i + 1))) is
    ∙ ap₂ (λ p e. made ++ bare_hop p ∷ hops_from (n - (i + 1)) b e) here on
    ∙ sym (ap (λ k. made ++ hops_from k b (d + i)) fewer)

pub hops_end : (made : List Hop) (n i b d : ℕ) → n ≤ i → made ++ hops_from (n - i) b d ≡ made
hops_end made n i b d le =
    let none : n - i ≡ 0 = omega (arith, le) in
    ap (λ k. made ++ hops_from k b d) none ∙ append-nil made

-- one more item of a map over numbers
pub items_more : {A : Type 0} (f : ℕ → A) (made next : List A) (i n : ℕ) → i < n → next ≡ made ++ f i ∷ []
    → next ++ map f (range_with_len (i + 1) (n - (i + 1))) ≡ made ++ map f (range_with_len i (n - i))
items_more f made next i n lt is =
    let fewer : n - i ≡ suc (n - (i + 1)) = omega (arith, lt) in
    with_item made next (f i) (map f (range_with_len (i + 1) (n - (i + 1)))) is
    ∙ sym (ap (λ k. made ++ map f (range_with_len i k)) fewer)

pub items_end : {A : Type 0} (f : ℕ → A) (made : List A) (i n : ℕ) → n ≤ i → made ++ map f (range_with_len i (n - i)) ≡ made
items_end f made i n le =
    let none : n - i ≡ 0 = omega (arith, le) in
    ap (λ k. made ++ map f (range_with_len i k)) none ∙ append-nil made

-- one more list of a number
pub lists_more : {A : Type 0} (f : ℕ → List A) (made next : List A) (i n : ℕ) → i < n → next ≡ made ++ f i
    → next ++ flat_map f (range_with_len (i + 1) (n - (i + 1))) ≡ made ++ flat_map f (range_with_len i (n - i))
lists_more f made next i n lt is =
    let fewer : n - i ≡ suc (n - (i + 1)) = omega (arith, lt) in
    let left = flat_map f (range_with_len (i + 1) (n - (i + 1))) in
    ap (λ xs. xs ++ left) is ∙ append_assoc made (f i) left
    ∙ sym (ap (λ k. made ++ flat_map f (range_with_len i k)) fewer)

pub lists_end : {A : Type 0} (f : ℕ → List A) (made : List A) (i n : ℕ) → n ≤ i → made ++ flat_map f (range_with_len i (n - i)) ≡ made
lists_end f made i n le =
    let none : n - i ≡ 0 = omega (arith, le) in
    ap (λ k. made ++ flat_map f (range_with_len i k)) none ∙ append-nil made
