use Rattle.std.proofs.Common.{◌≡◌}
use Rattle.std.specs.Vec.Iter.{into_iter_items}
use Rattle.switch_model.specs.Built.{laid}
use Rattle.switch_state.specs.Plain.{plain}
use Rattle.base_state.proofs.base.lay_all.Given as goal

abbrev pub invariant-loop-entry : goal.invariant-loop-entry
invariant-loop-entry l = (laid (plain l.edit.state) (into_iter_items l.entry-iterator) ≡ laid (plain l.fn.edit.state) l.fn.base) × (l.edit.state.version ≡ l.fn.edit.state.version)
