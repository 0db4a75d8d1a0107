use Rattle.std.proofs.Common.{sym, ◌∙◌}
use Rattle.row_compare.proofs.FrontLaws.{least_both, least_new, least_old, taken_none}
use Rattle.row_compare.proofs.front.take_least.Goals as goal

pub returns-in-None : goal.returns-in-None
returns-in-None g c = taken_none g.K.Ord.cmp c.args.old.now.items c.args.new.now.items c.args.old.now.items c.args.new.now.items (sym c.in-None.is ∙ c.first_of.ensures)

pub returns-in-Some-Less : goal.returns-in-Some-Less
returns-in-Some-Less g c = least_old g.K.Ord.cmp c.requires.order c.args.old.now.items c.args.new.now.items c.pop_front.new.self.items c.pop_front.result c.row_of_old.result c.in-Some-Less.field-0 c.row_of_old.ensures c.pop_front.ensures.items c.pop_front.ensures.rest c.in-Some-Less.field-0-is c.in-Some-Less.ensures c.requires.old

pub returns-in-Some-Equal : goal.returns-in-Some-Equal
returns-in-Some-Equal g c = least_both g.K.Ord.cmp c.requires.order c.args.old.now.items c.args.new.now.items c.pop_front-in-Some-Equal.new.self.items c.pop_front-in-Some-Equal-2.new.self.items c.pop_front-in-Some-Equal.result c.pop_front-in-Some-Equal-2.result c.row_of_both.result c.in-Some-Equal.field-0 c.row_of_both.ensures c.pop_front-in-Some-Equal.ensures.items c.pop_front-in-Some-Equal.ensures.rest c.pop_front-in-Some-Equal-2.ensures.items c.pop_front-in-Some-Equal-2.ensures.rest c.in-Some-Equal.field-0-is c.in-Some-Equal.ensures c.requires.old c.requires.new

pub returns-in-Some-Greater : goal.returns-in-Some-Greater
returns-in-Some-Greater g c = least_new g.K.Ord.cmp c.requires.order c.args.old.now.items c.args.new.now.items c.pop_front-in-Some-Greater.new.self.items c.pop_front-in-Some-Greater.result c.row_of_new.result c.in-Some-Greater.field-0 c.row_of_new.ensures c.pop_front-in-Some-Greater.ensures.items c.pop_front-in-Some-Greater.ensures.rest c.in-Some-Greater.field-0-is c.in-Some-Greater.ensures c.requires.new
