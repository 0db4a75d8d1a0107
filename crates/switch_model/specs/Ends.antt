-- The ends that the hops of a route reach.
use Rattle.std.specs.Prelude.{ℕ, Bool, ◌↔◌, IsTrue, List}
use Rattle.std.specs.List.{Contains}
use Rattle.net_types.specs.Cidr.{Cidr}
use Rattle.net_types.specs.declared.table.HostKey.{HostKey}
use Rattle.switch_model.specs.PlainState.{Rib}
use Rattle.switch_model.specs.Reach.{direct, to_cpu, dropped, Reaches}

-- the hosts that the prefix reaches directly, and whether it reaches the CPU and drop
pub record AreEnds (rib : Rib) (vrf : ℕ) (prefix : Cidr) (hosts : List HostKey) (cpu drop : Bool) : Type 0 where
  pub by_host : (host : HostKey) → Contains hosts host ↔ Reaches rib vrf prefix (direct host)
  pub by_cpu : IsTrue cpu ↔ Reaches rib vrf prefix to_cpu
  pub by_drop : IsTrue drop ↔ Reaches rib vrf prefix dropped
