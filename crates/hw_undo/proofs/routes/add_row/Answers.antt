use Rattle.hw_undo.proofs.routes.add_row.Goals as goal

pub row_near-row-requires-clause-known : goal.row_near-row-requires-clause-known
row_near-row-requires-clause-known g c = c.requires.known c.in-Some.target c.in-Some.is
