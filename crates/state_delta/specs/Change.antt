-- What differs between two maps under one key.
use Rattle.std.specs.Prelude.{ℕ, Option, None, Some, option_copied, if◌then◌else◌, ◌==◌}
use Rattle.node_core.specs.Node.{NodeView}
use Rattle.state_delta.specs.declared.change.Change.{Change}
use Rattle.state_delta.specs.declared.change.Kind.{Kind}
use Rattle.state_delta.specs.declared.change.Kind.TheVariants.{Added, Removed, Changed, Replaced}

-- the contents under a key in the one map and in the other, and how they differ
pub record ChangeView (T : Type 0) : Type 0 where
  pub old : Option T
  pub new : Option T
  pub kind : Kind

-- how two nodes under one key differ: not at all where birth and generation are equal
abbrev pub between : {T : Type 0} → NodeView T → NodeView T → Option (ChangeView T)
between m n = if m.born == n.born then (if m.generation == n.generation then None else Some (record { old = Some m.value; new = Some n.value; kind = Changed })) else Some (record { old = Some m.value; new = Some n.value; kind = Replaced })

-- what differs under a key, given what stands there in the one map and in the other
abbrev pub change_of : {T : Type 0} → Option (NodeView T) → Option (NodeView T) → Option (ChangeView T)
change_of None None = None
change_of None (Some n) = Some (record { old = None; new = Some n.value; kind = Added })
change_of (Some m) None = Some (record { old = Some m.value; new = None; kind = Removed })
change_of (Some m) (Some n) = between m n

-- a change as a key and what differs there
abbrev pub seen : {T : Type 0} → Change T → ℕ × ChangeView T
seen c = (c.key, record { old = option_copied c.old; new = option_copied c.new; kind = c.kind })
