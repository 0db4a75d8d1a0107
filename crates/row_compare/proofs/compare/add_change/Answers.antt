use Rattle.std.proofs.Common.{sym, ◌∙◌}
use Rattle.row_compare.proofs.compare.add_change.Goals as goal

pub push-requires : goal.push-requires
push-requires g c = c.requires (sym c.eq.ensures ∙ c.if-eq.false)
