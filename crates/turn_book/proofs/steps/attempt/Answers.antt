use Rattle.std.proofs.Common.{rules, ◌∷◌, ap, sym, ◌∙◌}
use Rattle.atomic_table.specs.Table.{rest}
use Rattle.turn_book.specs.declared.view.Held.TheVariants.{Desk}
use Rattle.turn_book.proofs.KeepsDesk.{takes_desk}
use Rattle.turn_book.proofs.steps.attempt.Goals as goal

pub swap-found-requires : goal.swap-found-requires
swap-found-requires g c = (search rules, search rules, takes_desk _ _ _ _ _ _ _ c.requires.unspent c.requires.free)

pub exchange-requires : goal.exchange-requires
exchange-requires g c =
    let took = c.swap-found.ensures.2.0 (search rules) in
    (search rules, (Desk took.0, ap (λ m. m.1) took.1 ∙ ap (λ cs. (0, Desk took.0) ∷ cs) (sym (ap (λ m. rest m.1) took.1))))
