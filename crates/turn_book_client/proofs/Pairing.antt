-- A beginning of a list, and the two items after it.
use Rattle.std.proofs.Common.{◌≡◌, suc, ◌+◌, ◌*◌, ◌<◌, List, [], ◌∷◌, ◌++◌, length, get_or, refl, sym, arith}
use Rattle.keyed.specs.Prefix.{IsPrefix}
use Rattle.turn_book.specs.Lists.{strip}
use Rattle.turn_book_client.specs.declared.values.Pair.{Pair}
use Rattle.turn_book_client.specs.Pairs.{subs_of}

pub length-strip : (rounds : List Pair) → length (strip subs_of rounds) ≡ 2 * length rounds
length-strip [] = refl
length-strip (r ∷ rs) = omega (arith, length-strip rs)

pub prefix_pair : {A : Type 0} (xs ys : List A) (a b : A) → IsPrefix xs ys → suc (length xs) < length ys → a ≡ get_or ys (length xs) a → b ≡ get_or ys (suc (length xs)) b → IsPrefix (xs ++ a ∷ b ∷ []) ys
prefix_pair [] [] a b p lt first second = absurd (omega arith)
prefix_pair [] (y ∷ []) a b p lt first second = absurd (omega arith)
prefix_pair [] (y ∷ z ∷ zs) a b p lt first second = (zs, λ i. sym first i ∷ sym second i ∷ zs)
prefix_pair (x ∷ xs) [] a b p lt first second = absurd (omega arith)
prefix_pair (x ∷ xs) (y ∷ ys) a b p lt first second =
    let same : x ≡ y = cc (p.1) in
    let more = prefix_pair xs ys a b (p.0, cc (p.1)) (omega arith) first second in (more.0, λ i. sym same i ∷ more.1 i)
