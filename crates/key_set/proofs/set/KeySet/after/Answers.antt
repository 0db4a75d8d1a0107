use Rattle.std.proofs.Common.{◌∙◌, Option, None, Some, ap}
use Rattle.std.specs.Option.{option_map}
use Rattle.key_set.proofs.Marks.{first_key, least_key}
use Rattle.key_set.proofs.set.KeySet.after.Goals as goal

pub returns-in-None-clause-value : goal.returns-in-None-clause-value
returns-in-None-clause-value c = ap (option_map (λ e. e.0)) c.in-None.ensures ∙ first_key c.args.key.now c.self.inside.marks.entries c.self.view_is

pub returns-in-None-clause-least : goal.returns-in-None-clause-least
returns-in-None-clause-least c = least_key c.args.key.now c.self.inside.marks.entries None c.shape.ensures.ascends c.self.view_is (ap (option_map (λ e. e.0)) c.in-None.ensures)

pub returns-in-Some-clause-value : goal.returns-in-Some-clause-value
returns-in-Some-clause-value c = ap (option_map (λ e. e.0)) c.in-Some.ensures ∙ first_key c.args.key.now c.self.inside.marks.entries c.self.view_is

pub returns-in-Some-clause-least : goal.returns-in-Some-clause-least
returns-in-Some-clause-least c = least_key c.args.key.now c.self.inside.marks.entries (Some c.in-Some.found.now) c.shape.ensures.ascends c.self.view_is (ap (option_map (λ e. e.0)) c.in-Some.ensures)
