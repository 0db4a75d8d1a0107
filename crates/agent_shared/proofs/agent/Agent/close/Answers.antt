use Rattle.std.proofs.Common.{List, ap, subst, sym, ◌∙◌}
use Rattle.core_laws.specs.Published.{IsPublished, PublishedView, journal_of}
use Rattle.shared_laws.specs.Callers.{Seen}
use Rattle.shared_laws.specs.Ground.{GroundView}
use Rattle.turn_book.specs.Closing.{HasEachCaller}
use Rattle.turn_book.specs.Passes.{Book}
use Rattle.agent_shared.proofs.Ending.{closed_chip, closed_latest, closes, journal_is}
use Rattle.agent_shared.proofs.agent.Agent.close.Goals as goal

pub close-desk-requires-clause-all : goal.close-desk-requires-clause-all
close-desk-requires-clause-all g c =
    let seats = c.seats_of-seats.result.items in
    subst (λ (b : Book GroundView). HasEachCaller b seats) (sym c.self.view_is) (subst (λ (l : List Seen). HasEachCaller c.args.self l) (sym c.seats_of-seats.ensures.same) c.requires.all)

pub returns-clause-lists : goal.returns-clause-lists
returns-clause-lists g c =
    let b = c.self.inside.book in
    let d = c.close-desk.result.0 in
    let s = c.close-desk.result.1 in
    let p = c.into_parts-chip.result.1 in
    let e = c.close-desk.ensures in
    let opening = c.into_core-core.ensures.opening ∙ ap (λ (x : PublishedView). (journal_of x).opening) (sym c.into_parts-chip.ensures.published) in
    let rounds = c.into_core-core.ensures.rounds ∙ ap (λ (x : PublishedView). x.rounds) (sym c.into_parts-chip.ensures.published) in
    let journal = journal_is b.opening d s p e.opening e.chip_opening e.journal opening rounds in
    closes b c.args.self c.seats_of-seats.result.items c.args.passes.items d (journal_of p) c.into_pending-pending.result c.self.view_is c.seats_of-seats.ensures.same e.opening
    c.into_pending-pending.ensures.desk c.into_pending-pending.ensures.sent journal e.seen e.jseen e.mine e.numbered e.no_others e.counted_once

pub returns-clause-chip : goal.returns-clause-chip
returns-clause-chip g c =
    let published = subst IsPublished c.published.ensures.published c.shape.ensures.published in
    closed_chip c.into_core-core.result c.into_parts-chip.result.1 (g.C.HwSwitch.raw c.into_parts-chip.result.0) c.into_core-core.ensures.core published c.into_parts-chip.ensures.published c.into_parts-chip.ensures.raw

pub returns-clause-latest : goal.returns-clause-latest
returns-clause-latest g c =
    let published = subst IsPublished c.published.ensures.published c.shape.ensures.published in
    closed_latest c.into_core-core.result c.into_parts-chip.result.1 _ c.into_core-core.ensures.core published c.into_parts-chip.ensures.published c.into_parts-chip.ensures.watches
