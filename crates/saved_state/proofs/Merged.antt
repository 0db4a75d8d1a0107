-- Two ascending lists of entries as one: what comes first in it.
use Rattle.std.proofs.Common.{◌≡◌, List, [], ◌∷◌, ◌++◌, refl, ap, ◌∙◌}
use Rattle.std.specs.List.{AllByRecursion}
use Rattle.std.specs.Ordering.{ordering_reverse}
use Rattle.std.specs.declared.cmp.Ordering.{Ordering}
use Rattle.std.specs.declared.cmp.Ordering.TheVariants.{Less, Greater}
use Rattle.keyed.specs.Keyed.{IsKeyOrder, put, Ascends, IsBelow}
use Rattle.keyed.specs.KeyedLaws.{below_before, by_order}
use Rattle.state_scan.specs.Together.{together}

module _ {K : Type 0} (cmp : K → K → Ordering) (is_order : IsKeyOrder cmp) where
  over : (x y : K) → cmp x y ≡ Less → cmp y x ≡ Greater
  over x y h = is_order.total.antisymm y x ∙ ap ordering_reverse h

  under : (x y : K) → cmp x y ≡ Greater → cmp y x ≡ Less
  under x y h = is_order.total.antisymm y x ∙ ap ordering_reverse h

  -- a key is below another that isn't below it and isn't the same
  pub below_left : (k n : K) → (cmp n k ≡ Less → ⊥) → (k ≡ n → ⊥) → cmp k n ≡ Less
  below_left k n later apart = by_order (cmp k n)
      (λ h. h)
      (λ h. absurd (apart (is_order.exact k n h)))
      (λ h. absurd (later (under k n h)))

  module _ {V : Type 0} where
    put_first : (k : K) (v : V) (l : List (K × V)) → IsBelow cmp k l → put cmp k v l ≡ (k, v) ∷ l
    put_first k v [] below = refl
    put_first k v (e ∷ es) below = rw below refl

    below_put : (j k : K) (v : V) (l : List (K × V)) → cmp j k ≡ Less → IsBelow cmp j l → IsBelow cmp j (put cmp k v l)
    below_put j k v [] lt b = lt
    below_put j k v (e ∷ es) lt b = by_order (cmp k e.0) (λ h. rw h lt) (λ h. rw h lt) (λ h. rw h b)

    below_both : (k : K) (es ns : List (K × V)) → Ascends cmp es → IsBelow cmp k es → IsBelow cmp k ns → IsBelow cmp k (together cmp es ns)
    below_both k [] ns up first second = second
    below_both k (e ∷ es) ns up first second = below_put k e.0 e.1 (together cmp es ns) first (below_both k es ns up.1 (below_before cmp is_order k e.0 es first up.0) second)

    -- the first of the first list, where it is below the second
    pub first_first : (e : K × V) (es ns : List (K × V)) → Ascends cmp (e ∷ es) → IsBelow cmp e.0 ns → together cmp (e ∷ es) ns ≡ e ∷ together cmp es ns
    first_first e es ns up below = put_first e.0 e.1 (together cmp es ns) (below_both e.0 es ns up.1 up.0 below)

    -- the first of the second list, where it is below the first
    second_first : (n : K × V) (es ns : List (K × V)) → Ascends cmp es → IsBelow cmp n.0 es → together cmp es (n ∷ ns) ≡ n ∷ together cmp es ns
    second_first n [] ns up below = refl
    second_first n (e ∷ es) ns up below =
        ap (put cmp e.0 e.1) (second_first n es ns up.1 (below_before cmp is_order n.0 e.0 es below up.0)) ∙ rw (over n.0 e.0 below) refl

    -- all of the second list that are below the first of the first list
    pub others_first : (others : List (K × V)) (e : K × V) (es left : List (K × V)) → Ascends cmp (e ∷ es) → AllByRecursion (λ n. cmp n.0 e.0 ≡ Less) others → together cmp (e ∷ es) (others ++ left) ≡ others ++ together cmp (e ∷ es) left
    others_first [] e es left up before = refl
    others_first (n ∷ ns) e es left up before =
        second_first n (e ∷ es) (ns ++ left) up before.0 ∙ ap (λ (l : List (K × V)). n ∷ l) (others_first ns e es left up before.1)
