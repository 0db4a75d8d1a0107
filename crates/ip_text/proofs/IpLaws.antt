-- The scans of texts with an ip in front.
use Rattle.std.proofs.Common.{◌≡◌, ◌≤◌, ◌<◌, ℕ, List, [], ◌∷◌, length, Option, Some, None, refl, sym, ap, subst, arith, ◌⊎◌, inl, inr, length-append}
use Rattle.std.specs.Prelude.{option_map}
use Rattle.net_types.specs.declared.ip.Ip.{Ip}
use Rattle.net_types.specs.declared.ip.Ip.TheVariants.{V4, V6}
use Rattle.net_types.specs.declared.hop.Hop.{Hop}
use Rattle.net_types.specs.Address.{ip_width}
use Rattle.net_types.specs.Cidr.{Cidr}
use Rattle.ip_text.specs.Place.{CanBegin}
use Rattle.ip_text.specs.Scans.{Scans}
use Rattle.ip_text.specs.Numerals.{IsNumber}
use Rattle.ip_text.specs.Ipv4.{IsQuad}
use Rattle.ip_text.specs.Ipv6.{IsIpv6}
use Rattle.ip_text.specs.AddressText.{IsIp, IsAddr, IsHop, IsHopBy}
use Rattle.ip_text.proofs.ScanLaws.{Lacks, Then, Mapped, scans_is, scans_map, then_stops, either_left, either_further, lacks_in, front_lacks}
use Rattle.ip_text.proofs.Numbers.{number_begins}
use Rattle.ip_text.proofs.ItemLaws.{thens_more}
use Rattle.ip_text.proofs.ColonLaws.{begun_no_quad, ip_lacks, slash, at_sign}

abbrev IsV4 : Ip → List ℕ → Type 0
IsV4 = Mapped V4 IsQuad

abbrev IsV6 : Ip → List ℕ → Type 0
IsV6 = Mapped V6 IsIpv6

to_ip : (ip : Ip) (t : List ℕ) → IsV4 ip t ⊎ IsV6 ip t → IsIp ip t
to_ip ip t (inl four) = subst (λ (x : Ip). IsIp x t) (sym four.2) four.1
to_ip ip t (inr six) = subst (λ (x : Ip). IsIp x t) (sym six.2) six.1

from_ip : (ip : Ip) (t : List ℕ) → IsIp ip t → IsV4 ip t ⊎ IsV6 ip t
from_ip (V4 n) t is = inl (n, is, refl)
from_ip (V6 n) t is = inr (n, is, refl)

swap : {P Q : Type 0} → P ⊎ Q → Q ⊎ P
swap (inl p) = inr p
swap (inr q) = inl q

-- the dotted quad goes further
pub ip_quad : (bytes quad_rest rest : List ℕ) (q n : Option ℕ) (v : Option Ip) → Scans IsQuad bytes q quad_rest → Scans IsIpv6 bytes n rest → length quad_rest < length rest → v ≡ option_map V4 q → Scans IsIp bytes v quad_rest
ip_quad bytes quad_rest rest q n v quad groups less same =
    scans_is to_ip from_ip (either_further (scans_map V4 IsQuad bytes quad_rest q v same quad) (scans_map V6 IsIpv6 bytes rest n (option_map V6 n) refl groups) less)

-- the groups go as far
pub ip_groups : (bytes quad_rest rest : List ℕ) (q n : Option ℕ) (v : Option Ip) → Scans IsQuad bytes q quad_rest → Scans IsIpv6 bytes n rest → length rest ≤ length quad_rest → v ≡ option_map V6 n → Scans IsIp bytes v rest
unfolding scans_map
ip_groups bytes quad_rest rest q n v quad groups le same =
    scans_is (λ a t is. to_ip a t (swap is)) (λ a t is. swap (from_ip a t is))
    (either_left (scans_map V6 IsIpv6 bytes rest n v same groups) (scans_map V4 IsQuad bytes quad_rest q (option_map V4 q) refl quad) le (λ a is. begun_no_quad is.0 groups.front groups.scan.begins is.1))

abbrev pub cidr_of : Ip → ℕ → Cidr
cidr_of ip len = record { ip = ip; len = len }

-- a length of the ip
abbrev IsLenOf : Ip → Cidr → List ℕ → Type 0
IsLenOf ip = Mapped (cidr_of ip) (IsNumber 0 (ip_width ip))

to_addr : (addr : Cidr) (t : List ℕ) → Then IsIp 47 IsLenOf addr t → IsAddr addr t
to_addr addr t it = subst (λ (x : Cidr). IsAddr x t) (sym it.4.2) (record { ip = it.1; len = it.2; is_ip = it.3; is_len = it.4.1; whole = it.5 })

from_addr : (addr : Cidr) (t : List ℕ) → IsAddr addr t → Then IsIp 47 IsLenOf addr t
from_addr addr t is = (addr.ip, is.ip, is.len, is.is_ip, (addr.len, is.is_len, refl), is.whole)

wide : (ip : Ip) → 9 ≤ ip_width ip
wide (V4 n) = omega arith
wide (V6 n) = omega arith

len_begins : (ip : Ip) → CanBegin (IsLenOf ip) []
len_begins ip = let it = number_begins 0 (ip_width ip) (omega arith) (wide ip) in record { value = cidr_of ip it.value; rest = it.rest; spelled = (it.value, it.spelled, refl) }

-- an ip, a slash and a length
pub addr_on : (ip : Ip) (bytes more next rest : List ℕ) (n : Option ℕ) (v : Option Cidr) → Scans IsIp bytes (Some ip) more → more ≡ 47 ∷ next → Scans (IsNumber 0 (ip_width ip)) next n rest → v ≡ option_map (cidr_of ip) n → Scans IsAddr bytes v rest
addr_on ip bytes more next rest n v first split second same =
    scans_is to_addr from_addr (thens_more IsIp 47 IsLenOf ip bytes more next rest v (ip_lacks 47 slash) first split (scans_map (cidr_of ip) (IsNumber 0 (ip_width ip)) next rest n v same second))

-- no ip, or no slash behind it
pub addr_stops : (bytes more : List ℕ) (v : Option Ip) → Scans IsIp bytes v more → ((next : List ℕ) (a : Ip) → more ≡ 47 ∷ next → v ≡ Some a → ⊥) → Scans IsAddr bytes None more
addr_stops bytes more v first stops = scans_is to_addr from_addr (record {
  front = first.front;
  split = first.split;
  scan = then_stops IsIp 47 IsLenOf first.front more v (ip_lacks 47 slash) len_begins first.scan stops;
})

abbrev pub bare : Ip → Hop
bare ip = record { ip = ip; intf = None }

abbrev pub hop_by : Ip → ℕ → Hop
hop_by ip intf = record { ip = ip; intf = Some intf }

abbrev IsBare : Hop → List ℕ → Type 0
IsBare = Mapped bare IsIp

abbrev IsIntfOf : Ip → Hop → List ℕ → Type 0
IsIntfOf ip = Mapped (hop_by ip) (IsNumber 1 4294967295)

to_hop : (hop : Hop) (t : List ℕ) → IsBare hop t ⊎ Then IsIp 64 IsIntfOf hop t → IsHop hop t
to_hop hop t (inl is) = subst (λ (x : Hop). IsHop x t) (sym is.2) is.1
to_hop hop t (inr it) = subst (λ (x : Hop). IsHop x t) (sym it.4.2) (record { front = it.1; back = it.2; is_ip = it.3; is_intf = it.4.1; whole = it.5 })

from_hop_by : (ip : Ip) (intf : Option ℕ) (t : List ℕ) → IsHopBy ip intf t → let hop : Hop = record { ip = ip; intf = intf } in IsBare hop t ⊎ Then IsIp 64 IsIntfOf hop t
from_hop_by ip None t is = inl (ip, is, refl)
from_hop_by ip (Some intf) t is = inr (ip, is.front, is.back, is.is_ip, (intf, is.is_intf, refl), is.whole)

from_hop : (hop : Hop) (t : List ℕ) → IsHop hop t → IsBare hop t ⊎ Then IsIp 64 IsIntfOf hop t
from_hop hop t is = from_hop_by hop.ip hop.intf t is

intf_begins : (ip : Ip) → CanBegin (IsIntfOf ip) []
intf_begins ip = let it = number_begins 1 4294967295 (omega arith) (omega arith) in record { value = hop_by ip it.value; rest = it.rest; spelled = (it.value, it.spelled, refl) }

-- no ip, or no at sign behind it
pub hop_stops : (bytes more : List ℕ) (v : Option Ip) (w : Option Hop) → Scans IsIp bytes v more → ((next : List ℕ) (a : Ip) → more ≡ 64 ∷ next → v ≡ Some a → ⊥) → w ≡ option_map bare v → Scans IsHop bytes w more
unfolding scans_map
hop_stops bytes more v w first stops same =
    let plain : Lacks 64 first.front = front_lacks IsIp 64 first.front (ip_lacks 64 at_sign) first.scan.begins in
    let none = then_stops IsIp 64 IsIntfOf first.front more v (ip_lacks 64 at_sign) intf_begins first.scan stops in
    scans_is to_hop from_hop (either_left (scans_map bare IsIp bytes more v w same first) (record { front = first.front; split = first.split; scan = none }) (omega arith) (λ a it. lacks_in 64 it.1 it.2 (subst (λ (t : List ℕ). Lacks 64 t) it.5 plain)))

-- an ip, an at sign and an interface
pub hop_on : (ip : Ip) (bytes more next rest : List ℕ) (n : Option ℕ) (v : Option Hop) → Scans IsIp bytes (Some ip) more → more ≡ 64 ∷ next → Scans (IsNumber 1 4294967295) next n rest → v ≡ option_map (hop_by ip) n → Scans IsHop bytes v rest
hop_on ip bytes more next rest n v first split second same =
    let shorter : length rest < length more = omega (arith, ap length split, ap length second.split, length-append second.front rest) in
    let then = thens_more IsIp 64 IsIntfOf ip bytes more next rest v (ip_lacks 64 at_sign) first split (scans_map (hop_by ip) (IsNumber 1 4294967295) next rest n v same second) in
    scans_is (λ a t is. to_hop a t (swap is)) (λ a t is. swap (from_hop a t is)) (either_further then (scans_map bare IsIp bytes more (Some ip) (Some (bare ip)) refl first) shorter)

pub not_some : {A : Type 0} (o : Option A) (a : A) → o ≡ None → o ≡ Some a → ⊥
not_some o a none some = cc (none, some)
