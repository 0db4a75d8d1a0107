use Rattle.core_published.proofs.published.Published.refusals.Goals as goal

pub returns : goal.returns
returns c = record { refusals = record { l2 = c.in_ok-l2.ensures.refusal; host = c.in_ok-host.ensures.refusal; group = c.in_ok-group.ensures.refusal; route = c.in_ok-route.ensures.refusal } }
