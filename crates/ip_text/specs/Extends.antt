-- Bytes that begin with others.
use Rattle.std.specs.Prelude.{◌≡◌, ◌++◌, ℕ, List}

-- the new bytes are the old ones and more
pub record Extends (old new : List ℕ) : Type 0 where
  pub more : List ℕ
  pub whole : new ≡ old ++ more
