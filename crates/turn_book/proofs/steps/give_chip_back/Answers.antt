use Rattle.std.proofs.Common.{◌∷◌, [], ap, sym, ◌∙◌}
use Rattle.atomic_table.specs.Table.{rest}
use Rattle.turn_book.specs.declared.view.Held.TheVariants.{Chip}
use Rattle.turn_book.proofs.KeepsChip.{gives_chip}
use Rattle.turn_book.proofs.steps.give_chip_back.Goals as goal

pub come_home-requires-clause-rule : goal.come_home-requires-clause-rule
come_home-requires-clause-rule g c =
    let now = c.exchange.ensures.3 in
    let view = ap (λ m. m.0) now in
    let hand = ap (λ m. m.1) now ∙ ap (λ cs. (1, Chip c.args.w) ∷ rest cs) c.requires.hand in
    gives_chip _ _ _ _ _ _ c.args.w [] (ap (λ v. v.spent) view ∙ c.requires.unspent) (ap (λ v. v.chip_turn) view ∙ c.requires.turn) hand
    (c.requires.done ∙ sym (ap (λ v. v.jseen) view)) (c.requires.opening ∙ sym (ap (λ v. v.opening) view))
