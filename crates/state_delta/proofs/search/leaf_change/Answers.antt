use Rattle.std.proofs.Common.{sym, ◌∙◌}
use Rattle.std.proofs.lemmas.Bool.{false≢true}
use Rattle.state_delta.proofs.Changes.{leaf_only, leaf_beside, leaves_passed, leaves_next}
use Rattle.state_delta.proofs.search.leaf_change.Goals as goal

pub returns-then-not-is_past : goal.returns-then-not-is_past
returns-then-not-is_past g c =
    let in_old = leaf_only c.args.old.now c.sound.ensures c.requires.old_leaf c.first.ensures in
    let in_new = leaf_beside c.args.old.now c.args.new.now c.sound.ensures c.sound-2.ensures c.requires.old_leaf c.requires.new_leaf c.requires.one_key c.first.ensures c.first-2.ensures in
    leaves_passed c.args.last.now c.first.result.0.now in_old in_new (λ past. false≢true (sym c.if-not-is_past.true ∙ c.is_past.ensures.1 past))

pub returns : goal.returns
returns g c =
    let in_old = leaf_only c.args.old.now c.sound.ensures c.requires.old_leaf c.first.ensures in
    let in_new = leaf_beside c.args.old.now c.args.new.now c.sound.ensures c.sound-2.ensures c.requires.old_leaf c.requires.new_leaf c.requires.one_key c.first.ensures c.first-2.ensures in
    leaves_next c.args.last.now c.first.result.0.now in_old in_new _ c.node_change.ensures (c.is_past.ensures.0 c.if-not-is_past.false)
