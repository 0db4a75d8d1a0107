use Rattle.std.proofs.Common.{◌≡◌, Some, length, map, take}
use Rattle.chip_core.specs.Chip.{key_in}
use Rattle.hw_undo.proofs.members.slots_of.Given as goal

abbrev pub invariant-loop-key : goal.invariant-loop-key
invariant-loop-key g l = record {
  long : length l.slots ≡ l.key-index;
  found : map (λ slot. key_in (g.C.HwSwitch.raw l.chip).host slot) l.slots ≡ map (λ key. Some key) (take l.key-index l.keys);
}
