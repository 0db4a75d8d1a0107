use Rattle.std.proofs.Common.{refl, arith}
use Rattle.net_types.specs.KeyOrder.{l2_cmp, l2_order}
use Rattle.hw_undo.proofs.ChangeLaws.{full-put}
use Rattle.hw_undo.proofs.RollBack.{noted-one, noted-none}
use Rattle.hw_undo.proofs.Undoing.{undoes-added_l2}
use Rattle.hw_undo.proofs.l2.put_row.Goals as goal

pub returns-in-Ok-clause-noted : goal.returns-in-Ok-clause-noted
returns-in-Ok-clause-noted g c = noted-one _ _ _ (λ groups are. undoes-added_l2 groups _ _ _ _ _ c.in-Ok.ensures.ok c.requires.absent) c.note.ensures.items c.in-Ok.ensures.caps c.in-Ok.ensures.writes c.note.ensures.len c.note.ensures.room

pub returns-in-Err-clause-full : goal.returns-in-Err-clause-full
returns-in-Err-clause-full g c = full-put l2_cmp l2_order _ _ _ _ c.requires.absent (c.in-Err.ensures.full.0 refl)

pub returns-in-Err-clause-none : goal.returns-in-Err-clause-none
returns-in-Err-clause-none g c = noted-none _ _ c.in-Err.ensures.err refl c.in-Err.ensures.caps c.in-Err.ensures.writes refl (omega arith)
