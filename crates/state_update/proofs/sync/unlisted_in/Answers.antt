use Rattle.std.proofs.Common.{rules, sym, ◌∙◌}
use Rattle.state_update.proofs.Syncing.{note_first, note_more, note_stop, number_of_first}
use Rattle.state_update.proofs.sync.unlisted_in.Goals as goal

pub note_unlisted-requires-clause-number : goal.note_unlisted-requires-clause-number
note_unlisted-requires-clause-number c = number_of_first _ _ _ _ (c.in-Some.key.now, c.in-Some.field-0-1.now) c.loop-key.key-iterator c.next.new.self _ c.in-Some.ensures.steps c.loop-key.invariant

pub loop-key-init : goal.loop-key-init
loop-key-init c = note_first _ _ _ c.new-gone.result.items c.vrf_key.result c.into_iter-key-iterator.result c.args.routes.now.entries (search rules) c.vrf_key.ensures (search rules) c.requires.numbers c.shape.ensures.ascends

pub loop-key-preserved : goal.loop-key-preserved
loop-key-preserved c = note_more _ _ _ _ _ (c.in-Some.key.now, c.in-Some.field-0-1.now) c.loop-key.key-iterator c.next.new.self _ c.in-Some.ensures.steps c.loop-key.invariant c.in_ok-note_unlisted.ensures

pub returns-then-not-is_in_vrf : goal.returns-then-not-is_in_vrf
returns-then-not-is_in_vrf c = note_stop c.args.vrf c.args.client c.args.listed.now c.loop-key.gone.items (c.in-Some.key.now, c.in-Some.field-0-1.now) c.loop-key.key-iterator c.next.new.self c.args.routes.now.entries c.in-Some.ensures.steps c.loop-key.invariant (sym c.is_in_vrf.ensures ∙ c.if-not-is_in_vrf.true)
