-- What a put stores, and which nodes a put or a removal makes.
use Rattle.std.specs.Prelude.{◌≡◌, ℕ, ◌⊎◌, Bool, List, Contains, Option, None, Some, if◌then◌else◌}
use Rattle.node_core.specs.Node.{NodeView}
use Rattle.node_key.specs.Place.{Covers}
use Rattle.node_map.specs.TreeNode.{TreeNode}

-- the node under a key after a put of the value at the version, given the node before: an equal value keeps the node, another one keeps the birth, and a new key is born
abbrev pub stored : {T : Type 0} → (T → T → Bool) → ℕ → T → Option (NodeView T) → NodeView T
stored eq version value None = record { value = value; generation = version; born = version }
stored eq version value (Some node) = if eq node.value value then node else record { value = value; generation = version; born = node.born }

-- the node under a key after a value was set there at the version, given the node before: it keeps the birth, and a new key is born
abbrev pub renewed : {T : Type 0} → ℕ → T → Option (NodeView T) → NodeView T
renewed version value None = record { value = value; generation = version; born = version }
renewed version value (Some node) = record { value = value; generation = version; born = node.born }

-- made at the version, on the key's path
pub record IsMadeFor {T : Type 0} (version key : ℕ) (n : TreeNode T) : Type 0 where
  pub at : n.generation ≡ version
  pub covers : Covers n.low n.width key

-- each new node is one of the old ones, or was made at the version on the key's path
pub record IsPathMade {T : Type 0} (version key : ℕ) (old new : List (TreeNode T)) : Type 0 where
  pub each : (n : TreeNode T) → Contains new n → Contains old n ⊎ IsMadeFor version key n
