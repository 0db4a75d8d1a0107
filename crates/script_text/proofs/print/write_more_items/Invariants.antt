use Rattle.std.proofs.Common.{◌≡◌, ◌++◌, drop}
use Rattle.script_text.specs.UpdateText.{more_items_text}
use Rattle.script_text.proofs.print.write_more_items.Given as goal

abbrev pub invariant-loop-item : goal.invariant-loop-item
invariant-loop-item l = l.page ++ more_items_text (drop l.item-index l.items) ≡ l.fn.page ++ more_items_text l.items
