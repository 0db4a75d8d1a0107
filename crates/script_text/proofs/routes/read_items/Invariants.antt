use Rattle.std.proofs.Common.{◌≡◌, [], length}
use Rattle.script_text.specs.Reading.{items_run}
use Rattle.script_text.specs.declared.routes.Place.TheVariants.{First}
use Rattle.script_text.proofs.routes.read_items.Given as goal

abbrev pub invariant-loop-word : goal.invariant-loop-word
invariant-loop-word l = items_run l.place l.routes l.cursor ≡ items_run First [] l.fn.cursor

abbrev pub decreases-loop-word : goal.decreases-loop-word
decreases-loop-word l = length l.cursor
