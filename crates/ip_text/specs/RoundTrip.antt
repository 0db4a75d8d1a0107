-- Printing and then reading.
use Rattle.std.specs.Prelude.{◌≡◌, ◌≢◌, ◌<◌, ◌^◌, ℕ, Option, None, Some, List, Result, Ok, length}
use Rattle.std.specs.List.{AllByRecursion}
use Rattle.net_types.specs.declared.ip.Ip.{Ip}
use Rattle.net_types.specs.declared.hop.Hop.{Hop}
use Rattle.net_types.specs.Address.{ip_number, ip_width}
use Rattle.net_types.specs.Range.{IsIntf}
use Rattle.ip_text.specs.declared.fault.TextFault.{TextFault}
use Rattle.ip_text.specs.Reads.{ReadsWithin}

-- whatever a reader of the form answers on the text, it is the value
abbrev pub ReadsBack : {A : Type 0} → (A → List ℕ → Type 0) → (A → List ℕ → Type 0) → A → List ℕ → Type 0
ReadsBack {A} Wider Is value text = (answer : Result A TextFault) → ReadsWithin Wider Is text answer → answer ≡ Ok value

-- its number has no more bits than its family
abbrev pub IsIpValue : Ip → Type 0
IsIpValue ip = ip_number ip < 2 ^ ip_width ip

-- no interface, or one in its range
abbrev pub IsIntfIfAny : Option ℕ → Type 0
IsIntfIfAny None = Unit {0}
IsIntfIfAny (Some intf) = IsIntf intf

-- both parts are in their ranges
abbrev pub IsHopValue : Hop → Type 0
IsHopValue hop = IsIpValue hop.ip × IsIntfIfAny hop.intf

-- the text is one word that spells the value: it isn't empty and has no space
pub record IsWordOf {A : Type 0} (value_of : List ℕ → Option A) (value : A) (text : List ℕ) : Type 0 where
  pub spells : value_of text ≡ Some value
  pub some : 0 < length text
  pub solid : AllByRecursion (λ b. b ≢ 32) text
