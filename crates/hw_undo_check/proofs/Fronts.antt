-- Fronts of lists whose keys ascend, and items within lists of which each is such.
use Rattle.std.proofs.Common.{◌≡◌, ◌++◌, List, [], ◌∷◌, append_assoc, sym, ap, ◌∙◌, subst}
use Rattle.std.specs.List.{AllByRecursion}
use Rattle.std.specs.declared.cmp.Ordering.{Ordering}
use Rattle.chip_core.specs.ChangeLists.{Change, IsAscending}

front : {K V : Type 0} (cmp : K → K → Ordering) (xs ys : List (Change K V)) → IsAscending cmp (xs ++ ys) → IsAscending cmp xs
front cmp [] ys ascending = tt
front cmp (c ∷ []) ys ascending = (tt, tt)
front cmp (c ∷ d ∷ ds) ys ascending = (ascending.0, front cmp (d ∷ ds) ys ascending.1)

-- what was pushed and the next item are a front of the whole
pub front-next : {K V : Type 0} (cmp : K → K → Ordering) (done rest left whole : List (Change K V)) (c : Change K V) → done ++ rest ≡ whole → rest ≡ c ∷ left → IsAscending cmp whole → IsAscending cmp (done ++ c ∷ [])
front-next {K} {V} cmp done rest left whole c is next ascending =
    let all : (done ++ c ∷ []) ++ left ≡ whole = append_assoc done (c ∷ []) left ∙ ap (λ (l : List (Change K V)). done ++ l) (sym next) ∙ is in
    front cmp (done ++ c ∷ []) left (subst (λ (l : List (Change K V)). IsAscending cmp l) (sym all) ascending)

pub whole-next : {A : Type 0} (done rest left whole pushed : List A) (x : A) → done ++ rest ≡ whole → rest ≡ x ∷ left → pushed ≡ done ++ x ∷ [] → pushed ++ left ≡ whole
whole-next {A} done rest left whole pushed x is next push = ap (λ (l : List A). l ++ left) push ∙ append_assoc done (x ∷ []) left ∙ ap (λ (l : List A). done ++ l) (sym next) ∙ is

within : {A : Type 0} (Is : A → Type 0) (done left : List A) (x : A) → AllByRecursion Is (done ++ x ∷ left) → Is x
within Is [] left x all = all.0
within Is (y ∷ ys) left x all = within Is ys left x all.1

pub such-next : {A : Type 0} (Is : A → Type 0) (done rest left whole : List A) (x : A) → done ++ rest ≡ whole → rest ≡ x ∷ left → AllByRecursion Is whole → Is x
such-next {A} Is done rest left whole x is next all = within Is done left x (subst (λ (l : List A). AllByRecursion Is l) (sym (ap (λ (l : List A). done ++ l) (sym next) ∙ is)) all)
