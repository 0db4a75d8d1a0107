-- The three kinds of acts.
use Rattle.std.specs.Prelude.{◌≡◌}
use Rattle.switch_model.specs.declared.act.Act.{Act}
use Rattle.switch_model.specs.Effect.{effect, neighbor_effect, port_effect, route_effect}
use Rattle.switch_model.specs.PlainState.{PlainState}
use Rattle.state_update.specs.declared.kind.Kind.{Kind}
use Rattle.state_update.specs.declared.kind.Kind.TheVariants.{Neighbors, Ports, Routes}

-- an act's effect is that of its kind
abbrev pub IsOfKind : Act → Kind → Type 0
IsOfKind act Ports = (m : PlainState) → effect m act ≡ port_effect m act
IsOfKind act Neighbors = (m : PlainState) → effect m act ≡ neighbor_effect m act
IsOfKind act Routes = (m : PlainState) → effect m act ≡ route_effect m act
