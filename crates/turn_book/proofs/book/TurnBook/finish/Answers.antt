use Rattle.std.proofs.Common.{◌≡◌, ap, sym, ◌∙◌, subst}
use mathlib.Core.Option.{some-injective}
use lib.ListN.{get_elem?}
use Rattle.turn_book.specs.declared.view.Held.{Held}
use Rattle.turn_book.specs.declared.view.Held.TheVariants.{Desk, Chip, Away}
use Rattle.turn_book.specs.Means.{Means, means}
use Rattle.turn_book.specs.Steps.{Ends}
use Rattle.turn_book.proofs.Ending.{ends}
use Rattle.turn_book.proofs.book.TurnBook.finish.Goals as goal

abbrev desk_or : {V W : Type 0} → V → Held V W → V
desk_or d (Desk v) = v
desk_or d (Chip w) = d
desk_or d Away = d

abbrev chip_or : {V W : Type 0} → W → Held V W → W
chip_or d (Desk v) = d
chip_or d (Chip w) = w
chip_or d Away = d

pub desk_of-requires : goal.desk_of-requires
desk_of-requires g c =
    let fin = c.close_with-closed.ensures.values.2 in
    let t = ends _ _ _ fin.0 fin.1.0 _ _ fin.1.1 c.requires.unspent c.requires.free c.requires.chip_free c.requires.all in
    (t.0, some-injective c.take-desk.result (Desk t.0) (sym c.take-desk.ensures.value ∙ fin.4 0 (Desk t.0) t.2))

pub chip_of-requires : goal.chip_of-requires
chip_of-requires g c =
    let fin = c.close_with-closed.ensures.values.2 in
    let t = ends _ _ _ fin.0 fin.1.0 _ _ fin.1.1 c.requires.unspent c.requires.free c.requires.chip_free c.requires.all in
    (t.1, some-injective c.take-chip.result (Chip t.1) (sym c.take-chip.ensures.value ∙ (ap (λ l. get_elem? l 1) c.take-desk.ensures.others.0 ∙ fin.4 1 (Chip t.1) t.3)))

pub returns : goal.returns
returns g c =
    let m : Means g.row.V.Denot g.row.W.Denot g.row.V-Ground.Denot g.row.V-Sub.Denot g.row.V-Round.Denot = means g.V.Settles.opening g.V.Stands.sent g.V.Settles.done g.V.Settles.caller g.V.Settles.sequence g.V.Settles.subs g.W.Settles.opening g.W.Settles.done in
    let fin = c.close_with-closed.ensures.values.2 in
    let t = ends m _ _ fin.0 fin.1.0 _ _ fin.1.1 c.requires.unspent c.requires.free c.requires.chip_free c.requires.all in
    let desk = some-injective c.take-desk.result (Desk t.0) (sym c.take-desk.ensures.value ∙ fin.4 0 (Desk t.0) t.2) in
    let chip = some-injective c.take-chip.result (Chip t.1) (sym c.take-chip.ensures.value ∙ (ap (λ l. get_elem? l 1) c.take-desk.ensures.others.0 ∙ fin.4 1 (Chip t.1) t.3)) in
    let v : t.0 ≡ c.desk_of.result = ap (desk_or t.0) (sym desk ∙ c.desk_of.ensures) in
    let w : t.1 ≡ c.chip_of.result = ap (chip_or t.1) (sym chip ∙ c.chip_of.ensures) in
    subst (λ (z : g.row.V.Denot × g.row.W.Denot). Ends m c.args.last.me.0 z.0 z.1) (λ j. (v j, w j)) t.4
