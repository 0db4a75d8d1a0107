use Rattle.std.proofs.Common.{◌∙◌, ap, subst, sym}
use Rattle.shared_laws.specs.Ground.{DeskView}
use Rattle.agent_shared.proofs.Desks.{round_moves, round_settles, round_short}
use Rattle.agent_shared.specs.Views.{IsNextPublished}
use Rattle.agent_shared.proofs.desk.Desk.settle.Goals as goal

pub drop_front-requires : goal.drop_front-requires
drop_front-requires c =
    let s = c.self.inside in
    let next = subst (λ (d : DeskView). IsNextPublished d c.args.published c.args.settled) (sym c.self.view_is) c.requires.next in
    record { there = round_short s.published s.pending s.limit s.sure c.args.published c.args.settled c.self.invariant next }

pub invariant_of-self : goal.invariant_of-self
invariant_of-self c =
    let s = c.self.inside in
    let next = subst (λ (d : DeskView). IsNextPublished d c.args.published c.args.settled) (sym c.self.view_is) c.requires.next in
    round_settles s.published s.pending c.drop_front.new.self s.limit s.sure c.args.published c.args.settled c.self.invariant next c.drop_front.ensures.list

pub returns : goal.returns
returns c =
    let s = c.self.inside in
    let next = subst (λ (d : DeskView). IsNextPublished d c.args.published c.args.settled) (sym c.self.view_is) c.requires.next in
    round_moves s.published s.pending c.drop_front.new.self s.limit s.sure c.args.published c.args.settled c.self.invariant next c.drop_front.ensures.list
    ∙ ap (λ (d : DeskView). record d { rounds = c.args.published.rounds }) c.self.view_is
