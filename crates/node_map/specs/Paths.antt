-- Which nodes several changes make, and how many these are.
use Rattle.std.specs.Prelude.{◌≡◌, ℕ, ◌==◌, ◌⊎◌, Bool, List, Contains}
use Rattle.node_key.specs.Place.{Covers}
use Rattle.node_map.specs.Change.{IsMadeFor}
use Rattle.node_map.specs.TreeNode.{TreeNode}

-- made at the version, on the path of a key that is such
pub record IsMadeForSome {T : Type 0} (version : ℕ) (Is : ℕ → Type 0) (n : TreeNode T) : Type 0 where
  pub key : ℕ
  pub such : Is key
  pub made : IsMadeFor version key n

-- each new node is one of the old ones, with its place and generation, or was made at the version on the path of a key that is such; `Contains keys` says that the key is one of a list
pub record ArePathsMade {T : Type 0} (version : ℕ) (Is : ℕ → Type 0) (old new : List (TreeNode T)) : Type 0 where
  pub each : (n : TreeNode T) → Contains new n → Contains old n ⊎ IsMadeForSome version Is n

-- the node is of the version
abbrev pub is_of : {T : Type 0} → ℕ → TreeNode T → Bool
is_of version n = n.generation == version

-- each node of the version lies on the path of a key that is such
pub record LieOnPaths {T : Type 0} (version : ℕ) (Is : ℕ → Type 0) (nodes : List (TreeNode T)) : Type 0 where
  pub each : (n : TreeNode T) → Contains nodes n → n.generation ≡ version → (key : ℕ) × Is key × Covers n.low n.width key
