use Rattle.std.proofs.Common.{rules, ◌≡◌, ◌∷◌, [], sym, subst, true, Some}
use Rattle.atomic_table.specs.Table.{opening}
use Rattle.turn_book.specs.declared.view.Held.TheVariants.{Desk, Chip}
use Rattle.turn_book.specs.Means.{Means, means}
use Rattle.turn_book.specs.Rule.{Kept, newcomer}
use Rattle.turn_book.proofs.Keeps.{starts}
use Rattle.turn_book.proofs.book.opens.start.Goals as goal

pub new-requires : goal.new-requires
new-requires g c =
    let row : c.push-2.new.self.items ≡ Desk c.args.desk ∷ Chip c.args.chip ∷ [] = search rules in
    let m : Means g.row.V.Denot g.row.W.Denot g.row.V-Ground.Denot g.row.V-Sub.Denot g.row.V-Round.Denot = means g.V.Settles.opening g.V.Stands.sent g.V.Settles.done g.V.Settles.caller g.V.Settles.sequence g.V.Settles.subs g.W.Settles.opening g.W.Settles.done in
    let e = c.requires in
    subst (λ v. Kept m (g.V.Settles.opening v) c.args.callers (opening (0 ∷ 0 ∷ 1 ∷ 1 ∷ []) c.push-2.new.self.items (newcomer (Some (g.V.Settles.opening v)) c.args.callers 0 true 1))) (sym c.of.ensures)
    (subst (λ l. Kept m (g.V.Settles.opening c.args.desk) c.args.callers (opening (0 ∷ 0 ∷ 1 ∷ 1 ∷ []) l (newcomer (Some (g.V.Settles.opening c.args.desk)) c.args.callers 0 true 1))) (sym row)
    (starts m c.args.desk c.args.chip c.args.callers e.callers e.sent e.done e.chip e.opening))
