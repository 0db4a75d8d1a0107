use Rattle.state_update.proofs.Syncing.{IsNoting}
use Rattle.state_update.proofs.sync.unlisted_in.Given as goal

abbrev pub invariant-loop-key : goal.invariant-loop-key
invariant-loop-key l = IsNoting l.vrf l.client l.listed l.gone.items l.key-iterator l.fn.routes.entries
