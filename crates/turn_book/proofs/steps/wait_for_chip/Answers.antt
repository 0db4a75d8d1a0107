use Rattle.std.proofs.Common.{rules, ◌∷◌, ap, sym, ◌∙◌}
use Rattle.atomic_table.specs.Table.{rest}
use Rattle.turn_book.specs.declared.view.Held.TheVariants.{Chip}
use Rattle.turn_book.proofs.KeepsChip.{takes_chip}
use Rattle.turn_book.proofs.steps.wait_for_chip.Goals as goal

pub swap-requires : goal.swap-requires
swap-requires g c =
    let same = ap (λ m. m.0) c.loop.invariant.same in
    (search rules, search rules, takes_chip _ _ _ _ _ _ (ap (λ v. v.spent) same ∙ c.requires.unspent) (ap (λ v. v.chip_turn) same ∙ c.requires.chip_free) (ap (λ v. v.desk_turn) same ∙ c.requires.free))

pub exchange-requires : goal.exchange-requires
exchange-requires g c =
    let took = c.swap.ensures.2.0 (search rules) in
    (search rules, (Chip took.0, ap (λ m. m.1) took.1 ∙ ap (λ cs. (1, Chip took.0) ∷ cs) (sym (ap (λ m. rest m.1) took.1))))
