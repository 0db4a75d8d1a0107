use Rattle.std.proofs.Common.{ap, ◌∙◌}
use Rattle.core_laws.proofs.PublishedLaws.{published_after}
use Rattle.core_laws.specs.Published.{PublishedView}
use Rattle.core_published.proofs.Extending.{extended_is, room_there, rounds_made, some_there}
use Rattle.core_published.proofs.published.Published.extended.Goals as goal

pub extended-requires : goal.extended-requires
extended-requires c = record {
  some = some_there c.in_ok-round.round c.args.kind c.version.result c.args.judged.items c.in_ok-round.ensures.round c.requires.some;
  room = room_there c.self.inside.rounds c.args.self.now.rounds c.in_ok-round.round c.args.kind c.version.result _ c.args.judged.items (ap (λ (v : PublishedView). v.rounds) c.self.view_is) c.in_ok-round.ensures.round c.requires.room;
}

pub invariant_of-result : goal.invariant_of-result
invariant_of-result c = published_after c.args.kind c.args.judged.items c.args.self.now c.in_ok-base.base c.args.state c.in_ok-rounds.rounds c.copy.result (rw (← c.self.view_is) c.self.invariant) (c.in_ok-base.ensures ∙ ap (λ (v : PublishedView). v.base) c.self.view_is) (c.copy.ensures.same ∙ ap (λ (v : PublishedView). v.caps) c.self.view_is)
    (rounds_made c.in_ok-rounds.rounds c.self.inside.rounds c.args.self.now.rounds c.in_ok-round.round c.args.kind c.version.result c.args.state.version c.args.judged.items c.in_ok-rounds.ensures.rounds (ap (λ (v : PublishedView). v.rounds) c.self.view_is) c.in_ok-round.ensures.round c.version.ensures)
    c.requires.plain c.requires.version c.requires.fib

pub returns : goal.returns
returns c = record {
  extended = extended_is c.args.self.now c.in_ok-base.base c.args.state c.in_ok-rounds.rounds c.copy.result c.args.kind c.args.judged.items (c.in_ok-base.ensures ∙ ap (λ (v : PublishedView). v.base) c.self.view_is) (c.copy.ensures.same ∙ ap (λ (v : PublishedView). v.caps) c.self.view_is)
      (rounds_made c.in_ok-rounds.rounds c.self.inside.rounds c.args.self.now.rounds c.in_ok-round.round c.args.kind c.version.result c.args.state.version c.args.judged.items c.in_ok-rounds.ensures.rounds (ap (λ (v : PublishedView). v.rounds) c.self.view_is) c.in_ok-round.ensures.round c.version.ensures)
      c.requires.version;
}
