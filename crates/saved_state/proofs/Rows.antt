-- Rows that are written one by one.
use Rattle.std.proofs.Common.{List, [], ◌∷◌, ◌++◌, All}
use Rattle.std.specs.List.{AllByRecursion}
use Rattle.std.proofs.lemmas.List.Elements.{All-cons, All-head, All-nil, All-tail}

pub each_by : {A : Type 0} (P : A → Type 0) (xs : List A) → All P xs → AllByRecursion P xs
each_by P [] h = tt
each_by P (x ∷ xs) h = (All-head P x xs h, each_by P xs (All-tail P x xs h))

pub by_each : {A : Type 0} (P : A → Type 0) (xs : List A) → AllByRecursion P xs → All P xs
by_each P [] h = All-nil P
by_each P (x ∷ xs) h = All-cons P x xs h.0 (by_each P xs h.1)

pub each_and : {A : Type 0} (P : A → Type 0) (xs ys : List A) → AllByRecursion P xs → AllByRecursion P ys → AllByRecursion P (xs ++ ys)
each_and P [] ys h l = l
each_and P (x ∷ xs) ys h l = (h.0, each_and P xs ys h.1 l)

pub each_behind : {A : Type 0} (P : A → Type 0) (xs ys : List A) → AllByRecursion P (xs ++ ys) → AllByRecursion P ys
each_behind P [] ys h = h
each_behind P (x ∷ xs) ys h = each_behind P xs ys h.1
