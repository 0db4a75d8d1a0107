use Rattle.std.proofs.Common.{arith, ◌≡◌, ℕ, ◌+◌, length, slice_index_or, refl, ap, sym, ◌∙◌, subst}
use Rattle.turn_book.specs.Passes.{IsPassOf, new_pass, new_passes}
use Rattle.turn_book.specs.Closing.{HoldsNothing}
use Rattle.turn_book.specs.PassLaws.{new_pass_at, length-new_passes}
use Rattle.turn_book_bench.proofs.turns.turns_of_book.Goals as goal

pub map_vec-requires-after_bounds : goal.map_vec-requires-after_bounds
map_vec-requires-after_bounds g c κs within i x lt at =
    let book = c.in_ok-book.book in
    let items : c.in_ok-book.passes.items ≡ new_passes book 0 c.args.threads = c.in_ok-book.ensures.passes in
    let long : length c.in_ok-book.passes.items ≡ c.args.threads = ap length items ∙ length-new_passes ℕ ℕ book 0 c.args.threads in
    let is : x ≡ new_pass book (0 + i) = at ∙ (ap (λ l. slice_index_or l i x) items ∙ new_pass_at book 0 c.args.threads i x (omega arith)) in
    subst (λ p. IsPassOf book p × HoldsNothing p) (sym is) (record { book = refl; callers = refl; opening = refl }, record { desk = refl; chip = refl })
