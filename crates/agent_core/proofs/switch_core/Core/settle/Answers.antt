use Rattle.std.proofs.Common.{◌≡◌, ap, ◌∙◌}
use Rattle.core_laws.proofs.SettledLaws.{run_some}
use Rattle.core_laws.specs.Published.{CoreView}
use Rattle.core_laws.specs.Rounds.{IsWhole}
use Rattle.agent_core.proofs.TurnLaws.{none_at, one_is_settled, one_room, one_version, some_at, whole_is_settled}
use Rattle.agent_core.proofs.switch_core.Core.settle.Goals as goal

pub first_of-requires : goal.first_of-requires
first_of-requires g c = record { some = run_some c.args.run.now c.requires.run }

pub one-requires-clause-single : goal.one-requires-clause-single
one-requires-clause-single g c = c.first_of.ensures.single

pub one-requires-clause-room : goal.one-requires-clause-room
one-requires-clause-room g c = one_room c.args.run.now c.args.self.now c.whole.new.self c.requires.run (none_at _ c.in_ok-published.field-0 c.in-None.is c.in_ok-published.ensures.full) c.requires.room

pub one-requires-clause-version : goal.one-requires-clause-version
one-requires-clause-version g c = one_version c.args.run.now c.args.self.now c.whole.new.self (none_at _ c.in_ok-published.field-0 c.in-None.is c.in_ok-published.ensures.full) c.requires.version

pub returns-in-Some-clause-settled : goal.returns-in-Some-clause-settled
returns-in-Some-clause-settled g c = whole_is_settled c.args.run.now c.args.self.now c.whole.new.self c.published.result.now c.shape.ensures.core c.published.ensures.published c.shape-2.ensures.published
    (some_at (λ p. IsWhole c.args.run.now c.args.self.now c.whole.new.self × (p ≡ c.whole.new.self.published)) c.in_ok-published.field-0 _ c.in-Some.is c.in_ok-published.ensures.done).0

pub returns-in_ok-published-in-None-clause-settled : goal.returns-in_ok-published-in-None-clause-settled
returns-in_ok-published-in-None-clause-settled g c = one_is_settled c.args.run.now c.first_of.result.now c.args.self.now c.whole.new.self c.one.new.self c.published.result.now c.requires.run c.first_of.ensures.first c.shape.ensures.core c.published.ensures.published c.shape-2.ensures.published
    (none_at _ c.in_ok-published.field-0 c.in-None.is c.in_ok-published.ensures.full) c.in_ok-published-in-None.ensures.done.0
