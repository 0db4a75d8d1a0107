-- A chip and the log of the writes to it, from one moment to a later one.
use Rattle.std.specs.Prelude.{◌≡◌, ◌≤◌, ◌+◌, ℕ, List, vec_capacity, vec_len}
use Rattle.std.specs.declared.vec.Vec.{Vec}
use Rattle.std.specs.declared.alloc.Global.{Global}
use Rattle.net_types.specs.declared.table.Caps.{Caps}
use Rattle.net_types.specs.declared.table.Tables.{Tables}
use Rattle.hw_undo.specs.Undo.{AreUndoable, GroupChanges, rolled_back}
use Rattle.hw_undo.specs.declared.write.Write.{Write}

-- what contracts see of a chip, and of the log of the writes to it: how many it has, and has room for
pub record Moment : Type 0 where
  pub raw : Tables
  pub caps : Caps
  pub writes : ℕ
  pub log : List Write
  pub len : ℕ
  pub room : ℕ

-- a chip with these tables, capacities and writes, and its log
abbrev pub moment : Tables → Caps → ℕ → Vec Write Global → Moment
moment raw caps writes log = record { raw = raw; caps = caps; writes = writes; log = log.items; len = vec_len log; room = vec_capacity log }

-- so many writes were made in between, each is in the log, and undoing the later log leads where undoing the earlier one does, where the changes of groups that the log names are such
pub record AreNotedWhere (Are : GroupChanges → Type 0) (n : ℕ) (before after : Moment) : Type 0 where
  pub undoable : (groups : GroupChanges) → Are groups → AreUndoable groups before.caps before.log before.raw → AreUndoable groups after.caps after.log after.raw
  pub back : (groups : GroupChanges) → Are groups → rolled_back groups after.log after.raw ≡ rolled_back groups before.log before.raw
  pub caps : after.caps ≡ before.caps
  pub writes : after.writes ≡ before.writes + n
  pub len : after.len ≡ before.len + n
  pub room : before.room ≤ after.room

-- and so of writes of which some are still to come
pub record AreNotedButWhere (Are : GroupChanges → Type 0) (rest total : ℕ) (before after : Moment) : Type 0 where
  pub count : ℕ
  pub sum : count + rest ≡ total
  pub noted : AreNotedWhere Are count before after

-- and so of at most that many
pub record AreNotedUpToWhere (Are : GroupChanges → Type 0) (most : ℕ) (before after : Moment) : Type 0 where
  pub count : ℕ
  pub few : count ≤ most
  pub noted : AreNotedWhere Are count before after

-- any changes of groups
abbrev pub AnyGroups : GroupChanges → Type 0
AnyGroups groups = Unit {0}

-- and so whatever changes of groups there are, as of writes to the other tables
abbrev pub AreNoted : ℕ → Moment → Moment → Type 0
AreNoted n before after = AreNotedWhere AnyGroups n before after

abbrev pub AreNotedBut : ℕ → ℕ → Moment → Moment → Type 0
AreNotedBut rest total before after = AreNotedButWhere AnyGroups rest total before after

abbrev pub AreNotedUpTo : ℕ → Moment → Moment → Type 0
AreNotedUpTo most before after = AreNotedUpToWhere AnyGroups most before after
