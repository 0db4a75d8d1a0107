-- The ends that a prefix reaches: hosts, the CPU, and drop.
use Rattle.std.specs.Prelude.{◌≡◌, ℕ, Bool, Option, Some, List}
use Rattle.net_types.specs.declared.hop.Hop.{Hop}
use Rattle.net_types.specs.declared.table.HostKey.{HostKey}
use Rattle.net_types.specs.Cidr.{Cidr}
use Rattle.switch_model.specs.declared.record.FibEntry.{FibEntry}
use Rattle.switch_model.specs.declared.record.FibEntry.TheVariants.{Forward}
use Rattle.switch_model.specs.Ends.{AreEnds}
use Rattle.switch_model.specs.PlainState.{Rib}

-- the hosts that the prefix reaches can be listed, and whether it reaches the CPU and drop can be told
pub record HasEnds (rib : Rib) (vrf : ℕ) (prefix : Cidr) : Type 0 where
  pub hosts : List HostKey
  pub cpu : Bool
  pub drop : Bool
  pub are : AreEnds rib vrf prefix hosts cpu drop

-- there is an entry, and it forwards to hosts
pub record IsForward (entry : Option FibEntry) : Type 0 where
  pub hops : List Hop
  pub is : entry ≡ Some (Forward hops)
