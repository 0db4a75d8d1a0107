-- Short forms of addresses, MACs and acts, in which the worked examples read like a script.
use Rattle.std.proofs.Common.{◌≡◌, ℕ, zero, suc, ◌+◌, ◌*◌, ◌^◌, false, Option, None, Some, List, [], ◌∷◌, map, filter}
use Rattle.net_types.specs.declared.hop.Hop.{Hop}
use Rattle.net_types.specs.declared.ip.Ip.{Ip}
use Rattle.net_types.specs.declared.ip.Ip.TheVariants.{V4, V6}
use Rattle.net_types.specs.declared.table.HostKey.{HostKey}
use Rattle.net_types.specs.Cidr.{Cidr}
use Rattle.switch_model.specs.declared.act.Act.{Act}
use Rattle.switch_model.specs.declared.verdict.Reason.{Reason}
use Rattle.switch_model.specs.Effect.{effect}
use Rattle.switch_model.specs.PlainState.{PlainState, empty}
use Rattle.switch_model.specs.Reason.{reason, reasons}

-- `a.b.c.d`
abbrev pub dotted : ℕ → ℕ → ℕ → ℕ → Ip
dotted a b c d = V4 (((a * 256 + b) * 256 + c) * 256 + d)

-- `10.0.0.d`
abbrev pub ten : ℕ → Ip
ten d = dotted 10 0 0 d

-- `first::last`, its first and last groups of 16 bits
abbrev pub groups : ℕ → ℕ → Ip
groups first last = V6 (first * 2 ^ 112 + last)

-- `fe80::last`
abbrev pub link_local : ℕ → Ip
link_local last = groups 65152 last

-- `ip/len`
abbrev pub slash : Ip → ℕ → Cidr
slash ip len = record { ip = ip; len = len }

-- `a.0.0.0/8`
abbrev pub eight : ℕ → Cidr
eight a = slash (dotted a 0 0 0) 8

-- `02:00:00:00:group:last`
abbrev pub mac : ℕ → ℕ → ℕ
mac group last = 2 * 2 ^ 40 + group * 256 + last

-- a hop `ip`, and a hop `ip@intf`
abbrev pub via_ip : Ip → Hop
via_ip ip = record { ip = ip; intf = None }

abbrev pub via_intf : Ip → ℕ → Hop
via_intf ip intf = record { ip = ip; intf = Some intf }

abbrev pub host : Ip → ℕ → HostKey
host ip intf = record { ip = ip; intf = intf }

-- the numbers from one on, so many of them
abbrev pub numbers : ℕ → ℕ → List ℕ
numbers from zero = []
numbers from (suc n) = from ∷ numbers (from + 1) n

-- a state after acts, whether they are valid or not
abbrev pub after : PlainState → List Act → PlainState
after m [] = m
after m (act ∷ acts) = after (effect m act) acts

abbrev pub state : List Act → PlainState
state acts = after empty acts

-- why an act is invalid: none where it is valid
abbrev pub why : PlainState → Act → Option Reason
why m act = reason m (record { alone = false; act = act })

-- the reasons of an act's line that hold
abbrev pub holding : PlainState → Act → List Reason
holding m act = map (λ r. r.0) (filter (λ r. r.1) (reasons m act))

-- an act is invalid for the first of several reasons that hold
abbrev pub IsFirst : PlainState → Act → Reason → List Reason → Type 0
IsFirst m act first later = (why m act ≡ Some first) × (holding m act ≡ first ∷ later)

-- the reasons of an act's line, in their order
abbrev pub line : PlainState → Act → List Reason
line m act = map (λ r. r.0) (reasons m act)
