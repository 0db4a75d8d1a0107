use Rattle.std.proofs.Common.{sym, ◌∙◌}
use Rattle.std.proofs.lemmas.Bool.{false≢true}
use Rattle.state_delta.proofs.Cutting.{parts_first, parts_second, parts_after, parts_before, first_lower, first_higher}
use Rattle.state_delta.proofs.cut.parting.Goals as goal

pub returns-then-encloses : goal.returns-then-encloses
returns-then-encloses g c = parts_first c.sound.ensures c.sound-2.ensures c.requires (c.encloses.ensures.0 c.if-encloses.true) c.mark.ensures.branch

pub returns-then-encloses-2 : goal.returns-then-encloses-2
returns-then-encloses-2 g c = parts_second c.sound.ensures c.sound-2.ensures c.requires (c.encloses-2.ensures.0 c.if-encloses-2.true) c.mark-then-encloses-2.ensures.branch

pub returns-then-is_before : goal.returns-then-is_before
returns-then-is_before g c =
    parts_after c.sound.ensures c.sound-2.ensures
    (λ holds. false≢true (sym c.if-encloses.false ∙ c.encloses.ensures.1 holds))
    (λ holds. false≢true (sym c.if-encloses-2.false ∙ c.encloses-2.ensures.1 holds))
    c.low-b_low.ensures
    (first_lower c.low-a_low.ensures c.low-b_low.ensures c.is_before.ensures c.if-is_before.true)

pub returns-else-is_before : goal.returns-else-is_before
returns-else-is_before g c =
    parts_before c.sound.ensures c.sound-2.ensures
    (λ holds. false≢true (sym c.if-encloses.false ∙ c.encloses.ensures.1 holds))
    (λ holds. false≢true (sym c.if-encloses-2.false ∙ c.encloses-2.ensures.1 holds))
    c.low-a_low.ensures
    (first_higher c.low-a_low.ensures c.low-b_low.ensures c.is_before.ensures c.if-is_before.false)
