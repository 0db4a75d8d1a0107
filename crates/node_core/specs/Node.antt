-- Nodes, as contracts see them: a value, the version that made the node, and the version at which its key was born.
use Rattle.std.specs.Prelude.{ℕ, Option, unwrap_or}

pub record NodeView (T : Type 0) : Type 0 where
  pub value : T
  pub generation : ℕ
  pub born : ℕ

-- a maker of nodes, as contracts see it
pub record ForgeView : Type 0 where
  pub version : ℕ

-- the node of a value that is made at the version: its birth is the given one, or else the version
abbrev pub made : {T : Type 0} → ℕ → Option ℕ → T → NodeView T
made version born value = record { value = value; generation = version; born = unwrap_or born version }
