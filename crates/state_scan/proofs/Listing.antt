-- What holds of the list of a map's entries.
use Rattle.std.proofs.Common.{◌≡◌, ℕ, Bool, true, false, ◌||◌, List, [], ◌∷◌, Option, None, Some, cond, refl, sym, ap, ◌∙◌, subst}
use Rattle.std.specs.List.{All, find, list_any}
use Rattle.std.specs.Option.{option_map}
use Rattle.std.specs.Ordering.{nat_cmp}
use Rattle.std.specs.declared.cmp.Ordering.{Ordering}
use Rattle.std.specs.declared.cmp.Ordering.TheVariants.{Less, Equal, Greater}
use Rattle.std.proofs.lemmas.List.Elements.{All-cons, All-head, All-nil, All-tail}
use Rattle.keyed.specs.Keyed.{at, put, without, Ascends, IsBelow}
use Rattle.keyed.specs.KeyedLaws.{by_order}
use Rattle.node_core.specs.Node.{NodeView}
use Rattle.node_map.specs.TreeNode.{Entries}
use Rattle.state_keys.specs.Numbering.{IsNumbering, IsNumberOf}
use Rattle.state_scan.specs.Listed.{listed}

-- what each entry keeps to, after a put and after a removal
pub all_put : {V : Type 0} (P : ℕ → Type 0) (k : ℕ) (v : V) (l : List (ℕ × V)) → P k → All (λ e. P e.0) l → All (λ e. P e.0) (put nat_cmp k v l)
all_put {V = V} P k v [] here all = All-cons (λ (e : ℕ × V). P e.0) (k, v) [] here all
all_put {V = V} P k v (e ∷ es) here all =
    let Q : ℕ × V → Type 0 = λ x. P x.0 in
    let first : Q e = All-head Q e es all in
    let rest : All Q es = All-tail Q e es all in
    by_order (nat_cmp k e.0)
    (λ h. rw h (All-cons Q (k, v) (e ∷ es) here all))
    (λ h. rw h (All-cons Q (k, v) es here rest))
    (λ h. rw h (All-cons Q e (put nat_cmp k v es) first (all_put P k v es here rest)))

pub all_without : {V : Type 0} (P : ℕ → Type 0) (k : ℕ) (l : List (ℕ × V)) → All (λ e. P e.0) l → All (λ e. P e.0) (without nat_cmp k l)
all_without {V = V} P k [] all = all
all_without {V = V} P k (e ∷ es) all =
    let Q : ℕ × V → Type 0 = λ x. P x.0 in
    let first : Q e = All-head Q e es all in
    let rest : All Q es = All-tail Q e es all in
    by_order (nat_cmp k e.0)
    (λ h. rw h all)
    (λ h. rw h rest)
    (λ h. rw h (All-cons Q e (without nat_cmp k es) first (all_without P k es rest)))

module _ {K : Type 0} {cmp : K → K → Ordering} {Is : K → Type 0} {number : K → ℕ} {of : ℕ → K} (law : IsNumbering cmp Is number of) where
  same_order : (k : K) (n : ℕ) → Is k → IsNumberOf Is number of n → nat_cmp (number k) n ≡ cmp k (of n)
  same_order k n is there = subst (λ (m : ℕ). nat_cmp (number k) m ≡ cmp k (of n)) there.same (law.order k (of n) is there.key)

  order_between : (n m : ℕ) → IsNumberOf Is number of n → IsNumberOf Is number of m → nat_cmp n m ≡ cmp (of n) (of m)
  order_between n m is there = subst (λ (x : ℕ). nat_cmp x m ≡ cmp (of n) (of m)) is.same (same_order (of n) m is.key there)

  module _ {T : Type 0} where
    pub at_listed : (k : K) (es : Entries T) → Is k → All (λ e. IsNumberOf Is number of e.0) es → at cmp k (listed of es) ≡ option_map (λ n. n.value) (at nat_cmp (number k) es)
    at_listed k [] is all = refl
    at_listed k (e ∷ es) is all =
        let P : ℕ × NodeView T → Type 0 = λ x. IsNumberOf Is number of x.0 in
        let o : nat_cmp (number k) e.0 ≡ cmp k (of e.0) = same_order k e.0 is (All-head P e es all) in
        by_order (cmp k (of e.0))
        (λ h. let h2 : nat_cmp (number k) e.0 ≡ Less = o ∙ h in rw h (rw h2 refl))
        (λ h. let h2 : nat_cmp (number k) e.0 ≡ Equal = o ∙ h in rw h (rw h2 refl))
        (λ h. let h2 : nat_cmp (number k) e.0 ≡ Greater = o ∙ h in rw h (rw h2 (at_listed k es is (All-tail P e es all))))

    pub put-listed : (k : K) (node : NodeView T) (es : Entries T) → Is k → All (λ e. IsNumberOf Is number of e.0) es → listed of (put nat_cmp (number k) node es) ≡ put cmp k node.value (listed of es)
    put-listed k node [] is all = ap (λ (x : K). (x, node.value) ∷ []) (law.back k is)
    put-listed k node (e ∷ es) is all =
        let P : ℕ × NodeView T → Type 0 = λ x. IsNumberOf Is number of x.0 in
        let o : nat_cmp (number k) e.0 ≡ cmp k (of e.0) = same_order k e.0 is (All-head P e es all) in
        by_order (cmp k (of e.0))
        (λ h. let h2 : nat_cmp (number k) e.0 ≡ Less = o ∙ h in rw h (rw h2 (ap (λ (x : K). (x, node.value) ∷ listed of (e ∷ es)) (law.back k is))))
        (λ h. let h2 : nat_cmp (number k) e.0 ≡ Equal = o ∙ h in rw h (rw h2 (ap (λ (x : K). (x, node.value) ∷ listed of es) (law.back k is))))
        (λ h. let h2 : nat_cmp (number k) e.0 ≡ Greater = o ∙ h in rw h (rw h2 (ap (λ (r : List (K × T)). (of e.0, e.1.value) ∷ r) (put-listed k node es is (All-tail P e es all)))))

    pub without-listed : (k : K) (es : Entries T) → Is k → All (λ e. IsNumberOf Is number of e.0) es → listed of (without nat_cmp (number k) es) ≡ without cmp k (listed of es)
    without-listed k [] is all = refl
    without-listed k (e ∷ es) is all =
        let P : ℕ × NodeView T → Type 0 = λ x. IsNumberOf Is number of x.0 in
        let o : nat_cmp (number k) e.0 ≡ cmp k (of e.0) = same_order k e.0 is (All-head P e es all) in
        by_order (cmp k (of e.0))
        (λ h. let h2 : nat_cmp (number k) e.0 ≡ Less = o ∙ h in rw h (rw h2 refl))
        (λ h. let h2 : nat_cmp (number k) e.0 ≡ Equal = o ∙ h in rw h (rw h2 refl))
        (λ h. let h2 : nat_cmp (number k) e.0 ≡ Greater = o ∙ h in rw h (rw h2 (ap (λ (r : List (K × T)). (of e.0, e.1.value) ∷ r) (without-listed k es is (All-tail P e es all)))))

    below-listed : (n : ℕ) (es : Entries T) → IsNumberOf Is number of n → All (λ e. IsNumberOf Is number of e.0) es → IsBelow nat_cmp n es → IsBelow cmp (of n) (listed of es)
    below-listed n [] is all below = tt
    below-listed n (e ∷ es) is all below =
        let P : ℕ × NodeView T → Type 0 = λ x. IsNumberOf Is number of x.0 in
        sym (order_between n e.0 is (All-head P e es all)) ∙ below

    pub ascends-listed : (es : Entries T) → All (λ e. IsNumberOf Is number of e.0) es → Ascends nat_cmp es → Ascends cmp (listed of es)
    ascends-listed [] all asc = tt
    ascends-listed (e ∷ es) all asc =
        let P : ℕ × NodeView T → Type 0 = λ x. IsNumberOf Is number of x.0 in
        (below-listed e.0 es (All-head P e es all) (All-tail P e es all) asc.0, ascends-listed es (All-tail P e es all) asc.1)

    pub all-listed : (es : Entries T) → All (λ e. IsNumberOf Is number of e.0) es → All (λ e. Is e.0) (listed of es)
    all-listed [] all = All-nil (λ (e : K × T). Is e.0)
    all-listed (e ∷ es) all =
        let P : ℕ × NodeView T → Type 0 = λ x. IsNumberOf Is number of x.0 in
        let here : IsNumberOf Is number of e.0 = All-head P e es all in
        All-cons (λ (x : K × T). Is x.0) (of e.0, e.1.value) (listed of es) here.key (all-listed es (All-tail P e es all))

-- tests of entries
pub any_listed : {K T : Type 0} (of : ℕ → K) (p : K × T → Bool) (es : Entries T) → list_any p (listed of es) ≡ list_any (λ e. p (of e.0, e.1.value)) es
any_listed of p [] = refl
any_listed of p (e ∷ es) = ap (λ (b : Bool). p (of e.0, e.1.value) || b) (any_listed of p es)

pub find_listed : {K T : Type 0} (of : ℕ → K) (p : K × T → Bool) (es : Entries T) → find p (listed of es) ≡ option_map (λ e. (of e.0, e.1.value)) (find (λ e. p (of e.0, e.1.value)) es)
find_listed of p [] = refl
find_listed of p (e ∷ es) = elim (p (of e.0, e.1.value)) as (λ b. cond b (Some (of e.0, e.1.value)) (find p (listed of es)) ≡ option_map (λ x. (of x.0, x.1.value)) (cond b (Some e) (find (λ x. p (of x.0, x.1.value)) es))) [ true ↦ refl | false ↦ find_listed of p es ]

-- the first entry that passes
pub first_listed : {K T : Type 0} (of : ℕ → K) (p : K × T → Bool) (es : Entries T) (found : Option (ℕ × NodeView T)) (key : Option K) → found ≡ find (λ e. p (of e.0, e.1.value)) es → key ≡ option_map (λ e. of e.0) found → key ≡ option_map (λ e. e.0) (find p (listed of es))
first_listed {K = K} {T = T} of p es found key is read = read ∙ ap (λ (o : Option (ℕ × NodeView T)). option_map (λ (e : ℕ × NodeView T). of e.0) o) is ∙ mapped (find (λ e. p (of e.0, e.1.value)) es) ∙ ap (λ (o : Option (K × T)). option_map (λ (e : K × T). e.0) o) (sym (find_listed of p es))
  where
    mapped : (o : Option (ℕ × NodeView T)) → option_map (λ (e : ℕ × NodeView T). of e.0) o ≡ option_map (λ (e : K × T). e.0) (option_map (λ (e : ℕ × NodeView T). (of e.0, e.1.value)) o)
    mapped None = refl
    mapped (Some e) = refl

pub found_number : {V : Type 0} (P : ℕ → Type 0) (p : ℕ × V → Bool) (e : ℕ × V) (es : List (ℕ × V)) → All (λ x. P x.0) es → Some e ≡ find p es → P e.0
found_number {V} P p e [] all is = absurd (cc)
found_number {V} P p e (x ∷ xs) all is =
    let Q : ℕ × V → Type 0 = λ y. P y.0 in
    let one : (b : Bool) → Some e ≡ cond b (Some x) (find p xs) → P e.0 = λ b. elim b as (λ v. Some e ≡ cond v (Some x) (find p xs) → P e.0) [
      | true ↦ λ h. let same : x ≡ e = cc in subst Q same (All-head Q x xs all)
      | false ↦ λ h. found_number P p e xs (All-tail Q x xs all) h
    ] in
    one (p x) is

-- what a test or another one has told
pub or_then : {r p : Bool} (q : Bool) → p ≡ r → r ≡ true → r ≡ (p || q)
or_then {r} {p} q is told = told ∙ ap (λ (b : Bool). b || q) (sym (is ∙ told))

pub or_else : {r s p q : Bool} → p ≡ r → r ≡ false → q ≡ s → s ≡ (p || q)
or_else {r} {s} {p} {q} is told rest = sym rest ∙ ap (λ (b : Bool). b || q) (sym (is ∙ told))
