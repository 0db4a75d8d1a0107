-- Orders and ranges of lists, said by recursion.
use Rattle.std.proofs.Common.{List, [], ◌∷◌, All}
use Rattle.std.specs.List.{AllByRecursion}
use Rattle.std.specs.List.Sorted.{IsStrictlySortedBy}
use Rattle.std.specs.declared.cmp.Ordering.{Ordering}
use Rattle.std.proofs.lemmas.List.Elements.{All-head, All-tail}
use Rattle.std.proofs.lemmas.Map.Keys.{sorted_head, sorted_tail}
use Rattle.json_form.specs.Lists.{Ascends}

-- what is strictly sorted ascends
pub ascends_by : {A : Type 0} (cmp : A → A → Ordering) (xs : List A) → IsStrictlySortedBy cmp xs → Ascends cmp xs
ascends_by cmp [] h = tt
ascends_by cmp (x ∷ []) h = tt
ascends_by cmp (x ∷ y ∷ rest) h = ((sorted_head cmp x (y ∷ rest) h).0, ascends_by cmp (y ∷ rest) (sorted_tail cmp x (y ∷ rest) h))

pub each_by : {A : Type 0} (P : A → Type 0) (xs : List A) → All P xs → AllByRecursion P xs
each_by P [] h = tt
each_by P (x ∷ xs) h = (All-head P x xs h, each_by P xs (All-tail P x xs h))
