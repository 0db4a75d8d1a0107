use Rattle.std.proofs.Common.{◌∷◌, ap, sym, ◌∙◌}
use Rattle.atomic_table.specs.Table.{rest}
use Rattle.turn_book.specs.declared.view.Held.TheVariants.{Desk}
use Rattle.turn_book.specs.Steps.{chip_hand}
use Rattle.turn_book.proofs.KeepsDesk.{gives_desk}
use Rattle.turn_book.proofs.steps.give_desk_back.Goals as goal

pub come_home-requires-clause-rule : goal.come_home-requires-clause-rule
come_home-requires-clause-rule g c =
    let now = c.exchange.ensures.3 in
    let view = ap (λ m. m.0) now in
    let hand = ap (λ m. m.1) now ∙ ap (λ cs. (0, Desk c.args.v) ∷ rest cs) c.requires.hand in
    gives_desk _ _ _ _ _ _ c.args.v (chip_hand c.args.seat.now.me.0.chip_turn) (ap (λ v. v.spent) view ∙ c.requires.unspent) (ap (λ v. v.desk_turn) view ∙ c.requires.turn) hand
    (c.requires.sent ∙ sym (ap (λ v. v.seen) view)) (c.requires.done ∙ sym (ap (λ v. v.jseen) view)) (c.requires.opening ∙ sym (ap (λ v. v.opening) view))
