-- The least key past a bound, in a list that ascends.
use Rattle.std.proofs.Common.{◌≡◌, ℕ, ◌<◌, ◌≤◌, Bool, true, false, List, [], ◌∷◌, Option, None, Some, refl, sym, ap, ◌∙◌, subst, inl, inr, arith}
use Rattle.std.specs.List.{AllByRecursion, Contains}
use Rattle.std.specs.List.Sorted.{IsStrictlySortedBy}
use Rattle.std.specs.Ordering.{nat_cmp}
use Rattle.std.specs.declared.cmp.Ordering.TheVariants.{Less}
use Rattle.std.proofs.lemmas.Bool.{cases_lt}
use Rattle.keyed.specs.Members.{contains_first, contains_later, contains_cases, contains_none}
use Rattle.keyed.specs.Ranges.{head_of, keys_past}
use Rattle.node_map.proofs.Order.{lt_from_cmp, gt_holds, gt_fails}
use Rattle.key_set.specs.Next.{IsNext, IsPast, keys_left}

pub above_each : (x : ℕ) (xs : List ℕ) (y : ℕ) → AllByRecursion (λ z. nat_cmp x z ≡ Less) xs → Contains xs y → x < y
above_each x [] y all has = absurd (contains_none y has)
above_each x (z ∷ zs) y all has = elim (contains_cases z zs y has) [
  | inl is ↦ let first : x < z = lt_from_cmp x z all.0 in omega (arith, first, is)
  | inr rest ↦ above_each x zs y all.1 rest
]

skip : (b x : ℕ) (xs : List ℕ) (o : Option ℕ) → x ≤ b → IsNext (Some b) xs o → IsNext (Some b) (x ∷ xs) o
skip b x xs None le is = λ y has p. elim (contains_cases x xs y has) [ inl same ↦ omega (arith, same, p, le) | inr rest ↦ is y rest p ]
skip b x xs (Some k) le is = (contains_later x xs k is.0, is.1, λ y has p. elim (contains_cases x xs y has) [ inl same ↦ absurd (omega (arith, same, p, le)) | inr rest ↦ is.2 y rest p ])

pub head_next : (b : ℕ) (ks : List ℕ) → IsStrictlySortedBy nat_cmp ks → IsNext (Some b) ks (head_of (keys_past nat_cmp b ks))
unfolding IsStrictlySortedBy
head_next b [] asc = λ y has p. contains_none y has
head_next b (x ∷ xs) asc = elim (cases_lt b x) [
  | inl lt ↦ rw (gt_holds x b lt) (contains_first x xs, lt, λ y has p. elim (contains_cases x xs y has) [ inl same ↦ omega (arith, same) | inr rest ↦ let above : x < y = above_each x xs y asc.0 rest in omega (arith, above) ])
  | inr le ↦ rw (gt_fails x b le) (skip b x xs (head_of (keys_past nat_cmp b xs)) le (head_next b xs asc.1))
]

-- all keys of a list are past what isn't above a key below them
all_after : (b x : ℕ) (xs : List ℕ) → b ≤ x → AllByRecursion (λ z. nat_cmp x z ≡ Less) xs → keys_past nat_cmp b xs ≡ xs
all_after b x [] le all = refl
all_after b x (y ∷ ys) le all =
    let above : x < y = lt_from_cmp x y all.0 in
    rw (gt_holds y b (omega arith)) (ap (λ l. y ∷ l) (all_after b x ys le all.1))

least_first : (x : ℕ) (xs : List ℕ) (k : ℕ) → AllByRecursion (λ z. nat_cmp x z ≡ Less) xs → Contains (x ∷ xs) k → k ≤ x → k ≡ x
least_first x xs k all has le = elim (contains_cases x xs k has) [ inl is ↦ is | inr rest ↦ let above : x < k = above_each x xs k all rest in absurd (omega (arith, above, le)) ]

begins : (x : ℕ) (xs : List ℕ) (k : ℕ) → AllByRecursion (λ z. nat_cmp x z ≡ Less) xs → k ≡ x → x ∷ xs ≡ k ∷ keys_past nat_cmp k (x ∷ xs)
begins x xs k all is =
    let tail : keys_past nat_cmp x (x ∷ xs) ≡ xs = rw (gt_fails x x (omega arith)) (all_after x x xs (omega arith) all) in
    subst (λ (z : ℕ). x ∷ xs ≡ z ∷ keys_past nat_cmp z (x ∷ xs)) (sym is) (ap (λ l. x ∷ l) (sym tail))

not_before : (x : ℕ) (xs : List ℕ) (k : ℕ) → AllByRecursion (λ z. nat_cmp x z ≡ Less) xs → Contains xs k → x ≤ k
not_before x xs k all has = let above : x < k = above_each x xs k all has in omega (arith, above)

-- what is left begins with the next key
pub next_left : (last : Option ℕ) (ks : List ℕ) (k : ℕ) → IsStrictlySortedBy nat_cmp ks → IsNext last ks (Some k) → keys_left last ks ≡ k ∷ keys_past nat_cmp k ks
unfolding IsStrictlySortedBy
next_left None [] k asc is = absurd (contains_none k is.0)
next_left None (x ∷ xs) k asc is = begins x xs k asc.0 (least_first x xs k asc.0 is.0 (is.2 x (contains_first x xs) tt))
next_left (Some b) [] k asc is = absurd (contains_none k is.0)
next_left (Some b) (x ∷ xs) k asc is = elim (cases_lt b x) [
  | inl lt ↦
      let all : keys_past nat_cmp b xs ≡ xs = all_after b x xs (omega arith) asc.0 in
      rw (gt_holds x b lt) (ap (λ l. x ∷ l) all ∙ begins x xs k asc.0 (least_first x xs k asc.0 is.0 (is.2 x (contains_first x xs) lt)))
  | inr le ↦
      let there : Contains xs k = elim (contains_cases x xs k is.0) [ inl same ↦ absurd (omega (arith, same, is.1, le)) | inr rest ↦ rest ] in
      rw (gt_fails x b le) (rw (gt_fails x k (not_before x xs k asc.0 there)) (next_left (Some b) xs k asc.1 (there, is.1, λ y has p. is.2 y (contains_later x xs y has) p)))
]

-- and is nothing where there is none
pub none_left : (last : Option ℕ) (ks : List ℕ) → IsNext last ks None → keys_left last ks ≡ []
none_left None [] is = refl
none_left None (x ∷ xs) is = absurd (is x (contains_first x xs) tt)
none_left (Some b) [] is = refl
none_left (Some b) (x ∷ xs) is = elim (cases_lt b x) [
  | inl lt ↦ absurd (is x (contains_first x xs) lt)
  | inr le ↦ rw (gt_fails x b le) (none_left (Some b) xs (λ y has p. is y (contains_later x xs y has) p))
]
