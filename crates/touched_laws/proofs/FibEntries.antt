-- Entries of the FIB that differ.
use Rattle.std.proofs.Common.{◌≡◌, ◌==◌, Bool, true, false, Option, None, Some, List, refl, sym, ap, ◌∙◌, inl, inr}
use Rattle.std.specs.Bool.{Decides}
use Rattle.std.specs.Cmp.{Equal-is}
use Rattle.std.specs.Cmp.Lexicographic.{slice_cmp}
use Rattle.std.specs.Option.{option_eq}
use Rattle.std.specs.Ordering.{eq_by_cmp, is_eq}
use Rattle.std.proofs.lemmas.Bool.{cases_Bool, false≢true, true≢false}
use Rattle.std.proofs.lemmas.Bool.Decides.{Decides-eqb}
use Rattle.keyed.specs.Differing.{differing_keys}
use Rattle.keyed.specs.DifferingLaws.{differing-are, differing-same}
use Rattle.keyed.specs.KeyedLaws.{same as same_key}
use Rattle.keyed.specs.KeyOrders.{lists_order}
use Rattle.net_types.specs.declared.hop.Hop.{Hop}
use Rattle.net_types.specs.declared.table.RouteKey.{RouteKey}
use Rattle.net_types.specs.KeyOrder.{hop_cmp, hop_order, route_cmp, route_order}
use Rattle.row_laws.specs.RowAt.{fib_at}
use Rattle.row_laws.specs.Touching.{DifferOnlyAt}
use Rattle.switch_model.specs.declared.record.FibEntry.{FibEntry}
use Rattle.switch_model.specs.declared.record.FibEntry.TheVariants.{Connected, Forward, ToCpu, Discard}
use Rattle.switch_model.specs.Fib.{fibs}
use Rattle.switch_model.specs.PlainState.{PlainState, rib}
use Rattle.touched_laws.specs.Differences.{AreTouchedFibs, HasTouchedFibs}

-- a test of whether two entries are the same
abbrev same_hops : List Hop → List Hop → Bool
same_hops = eq_by_cmp (slice_cmp hop_cmp)

abbrev same_entry : FibEntry → FibEntry → Bool
same_entry (Connected i) (Connected j) = i == j
same_entry (Forward xs) (Forward ys) = same_hops xs ys
same_entry ToCpu ToCpu = true
same_entry Discard Discard = true
same_entry _ _ = false

entry_exact : (a b : FibEntry) → same_entry a b ≡ true → a ≡ b
entry_exact (Connected i) (Connected j) e = ap Connected ((Decides-eqb i j).0 e)
entry_exact (Connected i) (Forward ys) e = absurd (false≢true e)
entry_exact (Connected i) ToCpu e = absurd (false≢true e)
entry_exact (Connected i) Discard e = absurd (false≢true e)
entry_exact (Forward xs) (Connected j) e = absurd (false≢true e)
entry_exact (Forward xs) (Forward ys) e = ap Forward ((lists_order hop_cmp hop_order).exact xs ys ((Equal-is (slice_cmp hop_cmp xs ys)).0 e))
entry_exact (Forward xs) ToCpu e = absurd (false≢true e)
entry_exact (Forward xs) Discard e = absurd (false≢true e)
entry_exact ToCpu (Connected j) e = absurd (false≢true e)
entry_exact ToCpu (Forward ys) e = absurd (false≢true e)
entry_exact ToCpu ToCpu e = refl
entry_exact ToCpu Discard e = absurd (false≢true e)
entry_exact Discard (Connected j) e = absurd (false≢true e)
entry_exact Discard (Forward ys) e = absurd (false≢true e)
entry_exact Discard ToCpu e = absurd (false≢true e)
entry_exact Discard Discard e = refl

entry_holds : (a : FibEntry) → same_entry a a ≡ true
entry_holds (Connected i) = (Decides-eqb i i).1 refl
entry_holds (Forward xs) = ap is_eq (same_key (slice_cmp hop_cmp) (lists_order hop_cmp hop_order) xs)
entry_holds ToCpu = refl
entry_holds Discard = refl

entry_decides : (a b : FibEntry) → Decides (same_entry a b) (a ≡ b)
entry_decides a b = (entry_exact a b, (λ same. ap (same_entry a) (sym same) ∙ entry_holds a))

-- of entries that may be missing
some_exact : (o p : Option FibEntry) → option_eq same_entry o p ≡ true → o ≡ p
some_exact None None e = refl
some_exact None (Some y) e = absurd (false≢true e)
some_exact (Some x) None e = absurd (false≢true e)
some_exact (Some x) (Some y) e = ap Some (entry_exact x y e)

some_holds : (o : Option FibEntry) → option_eq same_entry o o ≡ true
some_holds None = refl
some_holds (Some x) = entry_holds x

some_same : (o p : Option FibEntry) → o ≡ p → option_eq same_entry o p ≡ true
some_same o p same = ap (option_eq same_entry o) (sym same) ∙ some_holds o

pub touched_fibs-had : (m n : PlainState) → HasTouchedFibs m n
touched_fibs-had m n = record { keys = differing_keys route_cmp same_entry (fibs (rib m)) (fibs (rib n)); are = differing-are route_cmp route_order same_entry entry_decides (fibs (rib m)) (fibs (rib n)) }

pub touched_fibs-one : (m n : PlainState) (keys others : List RouteKey) → AreTouchedFibs m n keys → AreTouchedFibs m n others → keys ≡ others
touched_fibs-one m n keys others are also =
    differing-same route_cmp route_order same_entry entry_decides keys (fibs (rib m)) (fibs (rib n)) are ∙ sym (differing-same route_cmp route_order same_entry entry_decides others (fibs (rib m)) (fibs (rib n)) also)

pub touched_fibs-only : (m n : PlainState) (keys : List RouteKey) → AreTouchedFibs m n keys → DifferOnlyAt keys (fib_at m) (fib_at n)
touched_fibs-only m n keys are = record {
  same = λ k absent. elim (cases_Bool (option_eq same_entry (fib_at m k) (fib_at n k))) [
    | inl e ↦ some_exact (fib_at m k) (fib_at n k) e
    | inr e ↦ absurd (absent ((are.each k).1 (λ is. true≢false (sym (some_same (fib_at m k) (fib_at n k) is) ∙ e))))
  ];
}
