-- Addresses, clients and next hops by number.
use Rattle.std.specs.Prelude.{ℕ, zero, suc, ◌+◌, ◌*◌, ◌==◌, List, [], ◌∷◌, None, if◌then◌else◌}
use Rattle.net_types.specs.declared.client.Client.{Client}
use Rattle.net_types.specs.declared.client.Client.TheVariants.{Static, Openr, Ebgp, Ibgp}
use Rattle.net_types.specs.declared.hop.Hop.{Hop}
use Rattle.net_types.specs.declared.ip.Ip.{Ip}
use Rattle.net_types.specs.declared.ip.Ip.TheVariants.{V4}

-- the address that is written a.b.c.d
abbrev pub quad : ℕ → ℕ → ℕ → ℕ → Ip
quad a b c d = V4 (((a * 256 + b) * 256 + c) * 256 + d)

-- the client of a number from 1 to 4
abbrev pub client_of : ℕ → Client
client_of n = if n == 1 then Static else if n == 2 then Openr else if n == 3 then Ebgp else Ibgp

-- so many next hops from 10.i.0.h upwards, none with an interface
abbrev pub hops_from : ℕ → ℕ → ℕ → List Hop
hops_from zero i h = []
hops_from (suc n) i h = record { ip = quad 10 i 0 h; intf = None } ∷ hops_from n i (h + 1)
