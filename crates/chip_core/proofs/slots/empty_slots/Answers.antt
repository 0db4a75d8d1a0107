use Rattle.std.proofs.Common.{◌≡◌, ◌++◌, ◌∷◌, [], None, length, sym, ap, subst, ◌∙◌, arith}
use Rattle.std.proofs.lemmas.List.{append-nil}
use Rattle.std.specs.Ordering.{nat_cmp}
use Rattle.keyed.specs.Keyed.{put}
use Rattle.chip_core.specs.Taken.{AreFree, taken}
use Rattle.chip_core.proofs.TakenLaws.{free_push, taken-push}
use Rattle.chip_core.proofs.slots.empty_slots.Goals as goal

pub loop-slot-preserved : goal.loop-slot-preserved
loop-slot-preserved g c =
    let slots = c.loop-slot.slots.items in
    let was = c.loop-slot.invariant in
    let count : length slots ≡ c.loop-slot.slot = omega (arith, was.count) in
    let items = c.in_ok-push.ensures.items in
    let free = c.put.ensures.rows ∙ ap (λ n. put nat_cmp n tt c.loop-slot.free.rows) (sym count) in
    record {
      none = ap (λ l. taken 0 l) items ∙ taken-push 0 slots None ∙ append-nil (taken 0 slots) ∙ was.none;
      free = subst (λ l. AreFree l c.put.new.self.rows) (sym items) (subst (λ l. AreFree (slots ++ None ∷ []) l) (sym free) (free_push slots c.loop-slot.free.rows was.free));
      count = omega (arith, c.in_ok-push.ensures.len, was.count);
      within = omega (arith, c.loop-slot-test.true);
      room = c.put.ensures.capacity ∙ was.room;
    }
