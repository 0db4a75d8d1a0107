-- Printing and then reading.
use Rattle.std.specs.Prelude.{◌≡◌, ℕ, List}
use Rattle.switch_model.specs.declared.act.Update.{Update}
use Rattle.script_words.specs.Words.{words}
use Rattle.script_words.specs.Grammar.{AreWords}
use Rattle.script_text.specs.Grammar.{update}

-- the words of the text say that update, and no other
pub record IsReadAs (value : Update) (text : List ℕ) : Type 0 where
  pub says : AreWords (update value) (words text)
  pub only : (other : Update) → AreWords (update other) (words text) → other ≡ value
