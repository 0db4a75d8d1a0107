use Rattle.std.proofs.Common.{◌∙◌, ap}
use Rattle.std.specs.Option.{option_map}
use Rattle.key_set.proofs.Marks.{last_key}
use Rattle.key_set.proofs.set.KeySet.last_to.Goals as goal

pub returns-in-None : goal.returns-in-None
returns-in-None c = ap (option_map (λ e. e.0)) c.in-None.ensures ∙ last_key c.args.key.now c.self.inside.marks.entries c.self.view_is

pub returns-in-Some : goal.returns-in-Some
returns-in-Some c = ap (option_map (λ e. e.0)) c.in-Some.ensures ∙ last_key c.args.key.now c.self.inside.marks.entries c.self.view_is
