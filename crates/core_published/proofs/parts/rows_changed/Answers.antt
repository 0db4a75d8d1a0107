use Rattle.core_published.proofs.parts.rows_changed.Goals as goal

pub row_changes-requires-clause-follows : goal.row_changes-requires-clause-follows
row_changes-requires-clause-follows c = c.requires.follows

pub row_changes-requires-clause-old : goal.row_changes-requires-clause-old
row_changes-requires-clause-old c = c.requires.old

pub row_changes-requires-clause-new : goal.row_changes-requires-clause-new
row_changes-requires-clause-new c = c.requires.new

pub returns : goal.returns
returns c = record { changes = record { old = c.in_ok-changes.ensures.old; new = c.in_ok-changes.ensures.new; closed = c.in_ok-changes.ensures.closed; count = c.in_ok-changes.ensures.count } }
