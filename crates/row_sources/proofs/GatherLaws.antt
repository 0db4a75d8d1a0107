-- Walks over a map's entries that gather what each of them gives.
use Rattle.std.proofs.Common.{◌≡◌, ℕ, List, [], ◌∷◌, ◌++◌, All, map, refl, sym, ap, ◌∙◌, subst, append-nil, append_assoc}
use Rattle.std.specs.List.{flat_map}
use Rattle.std.proofs.lemmas.List.Elements.{All-head, All-tail}
use Rattle.keyed.specs.Keyed.{with_values}
use Rattle.node_core.specs.Node.{NodeView}
use Rattle.node_map.specs.TreeNode.{Entries}
use Rattle.state_scan.specs.Listed.{listed}

-- with what the entries that are left give, what was gathered is the whole
pub record IsGathering {T X : Type 0} (f : ℕ × NodeView T → List X) (got : List X) (left : Entries T) (whole : List X) : Type 0 where
  pub gathered : got ++ flat_map f left ≡ whole

-- the same, where the keys are numbers of some kind
pub record IsReading {T X : Type 0} (Is : ℕ → Type 0) (f : ℕ × NodeView T → List X) (got : List X) (left : Entries T) (whole : List X) : Type 0 where
  pub gathered : got ++ flat_map f left ≡ whole
  pub numbers : All (λ e. Is e.0) left

module _ {T X : Type 0} (f : ℕ × NodeView T → List X) where
  step : (got after : List X) (e : ℕ × NodeView T) (met left : Entries T) (whole : List X) → met ≡ e ∷ left → after ≡ got ++ f e → got ++ flat_map f met ≡ whole → after ++ flat_map f left ≡ whole
  step got after e met left whole first more is = ap (λ (l : List X). l ++ flat_map f left) more ∙ append_assoc got (f e) (flat_map f left) ∙ ap (λ (es : Entries T). got ++ flat_map f es) (sym first) ∙ is

  pub gather_first : (before got : List X) (met all : Entries T) (whole : List X) → got ≡ before → met ≡ all → before ++ flat_map f all ≡ whole → IsGathering f got met whole
  gather_first before got met all whole none is makes = record { gathered = ap (λ (l : List X). l ++ flat_map f met) none ∙ ap (λ (es : Entries T). before ++ flat_map f es) is ∙ makes }

  pub gather_more : (got after : List X) (e : ℕ × NodeView T) (met left : Entries T) (whole : List X) → met ≡ e ∷ left → IsGathering f got met whole → after ≡ got ++ f e → IsGathering f after left whole
  gather_more got after e met left whole first is more = record { gathered = step got after e met left whole first more is.gathered }

  pub gather_end : (got : List X) (left : Entries T) (whole : List X) → left ≡ [] → IsGathering f got left whole → got ≡ whole
  gather_end got left whole none is = sym (append-nil got) ∙ ap (λ (es : Entries T). got ++ flat_map f es) (sym none) ∙ is.gathered

  module _ (Is : ℕ → Type 0) where
    pub read_first : (before got : List X) (met all : Entries T) (whole : List X) → got ≡ before → met ≡ all → All (λ e. Is e.0) all → before ++ flat_map f all ≡ whole → IsReading Is f got met whole
    read_first before got met all whole none is numbers makes = record {
      gathered = ap (λ (l : List X). l ++ flat_map f met) none ∙ ap (λ (es : Entries T). before ++ flat_map f es) is ∙ makes;
      numbers = subst (λ (es : Entries T). All (λ e. Is e.0) es) (sym is) numbers;
    }

    pub read_more : (got after : List X) (e : ℕ × NodeView T) (met left : Entries T) (whole : List X) → met ≡ e ∷ left → IsReading Is f got met whole → after ≡ got ++ f e → IsReading Is f after left whole
    read_more got after e met left whole first is more = record {
      gathered = step got after e met left whole first more is.gathered;
      numbers = All-tail (λ (x : ℕ × NodeView T). Is x.0) e left (subst (λ (es : Entries T). All (λ x. Is x.0) es) first is.numbers);
    }

    pub read_number : (got : List X) (e : ℕ × NodeView T) (met left : Entries T) (whole : List X) → met ≡ e ∷ left → IsReading Is f got met whole → Is e.0
    read_number got e met left whole first is = All-head (λ (x : ℕ × NodeView T). Is x.0) e left (subst (λ (es : Entries T). All (λ x. Is x.0) es) first is.numbers)

    pub read_end : (got : List X) (left : Entries T) (whole : List X) → left ≡ [] → IsReading Is f got left whole → got ≡ whole
    read_end got left whole none is = sym (append-nil got) ∙ ap (λ (es : Entries T). got ++ flat_map f es) (sym none) ∙ is.gathered

-- one item for each
pub single : {A X : Type 0} (g : A → X) (xs : List A) → flat_map (λ x. g x ∷ []) xs ≡ map g xs
single g [] = refl
single {X = X} g (x ∷ xs) = ap (λ (l : List X). g x ∷ l) (single g xs)

-- what a list of a map's entries gives
pub listed_values : {K T V : Type 0} (of : ℕ → K) (f : T → V) (es : Entries T) → flat_map (λ e. (of e.0, f e.1.value) ∷ []) es ≡ with_values f (listed of es)
listed_values of f [] = refl
listed_values {K = K} {V = V} of f (e ∷ es) = ap (λ (l : List (K × V)). (of e.0, f e.1.value) ∷ l) (listed_values of f es)

pub listed_all : {K T X : Type 0} (of : ℕ → K) (f : T → List X) (es : Entries T) → flat_map (λ e. f e.1.value) es ≡ flat_map (λ e. f e.1) (listed of es)
listed_all of f [] = refl
listed_all {X = X} of f (e ∷ es) = ap (λ (l : List X). f e.1.value ++ l) (listed_all of f es)
