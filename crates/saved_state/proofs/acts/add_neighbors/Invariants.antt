use Rattle.std.proofs.Common.{◌≡◌, ◌++◌, map, take}
use Rattle.switch_model.specs.Sound.{neighbor_act}
use Rattle.saved_state.proofs.acts.add_neighbors.Given as goal

abbrev pub invariant-loop-neighbor : goal.invariant-loop-neighbor
invariant-loop-neighbor l = l.acts ≡ l.fn.acts ++ map (λ e. neighbor_act e.0 e.1) (take l.neighbor-index l.neighbors)
