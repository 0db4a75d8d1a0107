-- From the text of an address to that of a prefix.
use Rattle.std.proofs.Common.{Ok, Err, ◌≡◌, ◌≤◌, ℕ, List, [], length, take, refl, sym, ap, subst, ◌∙◌, arith}
use Rattle.std.proofs.lemmas.List.{append-nil, take_at}
use Rattle.net_types.specs.declared.ip.Ip.{Ip}
use Rattle.net_types.specs.declared.prefix.PrefixFault.{PrefixFault}
use Rattle.net_types.specs.declared.prefix.PrefixFault.TheVariants.{Length, HostBits}
use Rattle.net_types.specs.Address.{ip_width}
use Rattle.net_types.specs.Cidr.{Cidr}
use Rattle.net_types.specs.Prefix.{host_bits, IsPrefixFault}
use Rattle.net_types.specs.Prefix.{IsAddr as IsAddrValue, IsPrefix as IsPrefixValue}
use Rattle.ip_text.specs.declared.fault.TextFault.{TextFault}
use Rattle.ip_text.specs.Place.{IsPlace}
use Rattle.ip_text.specs.Reads.{Reads, ReadsWithin}
use Rattle.ip_text.specs.AddressText.{IsAddr, IsPrefix}

-- what is no address is no prefix
pub no_addr : (text : List ℕ) (fault : TextFault) → Reads IsAddr text (Err fault) → ReadsWithin IsAddr IsPrefix text (Err fault)
no_addr text fault reads = (λ a is. reads.0 a is.0, reads.1)

-- the place of a text of the form is its end
pub end_place : {A : Type 0} (Is : A → List ℕ → Type 0) (text : List ℕ) (a : A) → Is a text → IsPlace Is text (length text)
end_place Is text a is =
    let all : take (length text) text ≡ text = ap (take (length text)) (sym (append-nil text)) ∙ take_at text [] (length text) refl in
    record {
      within = omega arith;
      begins = record { value = a; rest = []; spelled = subst (λ (t : List ℕ). Is a t) (sym (append-nil (take (length text) text) ∙ all)) is };
      longest = λ n le can. le;
    }

same_cidr : (addr : Cidr) (ip : Ip) (len : ℕ) → ip ≡ addr.ip → len ≡ addr.len → (let cidr : Cidr = record { ip = ip; len = len } in cidr ≡ addr)
same_cidr addr ip len e f = ap (λ (x : Ip). let c : Cidr = record { ip = x; len = len } in c) e ∙ ap (λ (n : ℕ). let c : Cidr = record { ip = addr.ip; len = n } in c) f

pub prefix_read : (text : List ℕ) (addr prefix : Cidr) (ip : Ip) (len : ℕ) → ip ≡ addr.ip → len ≡ addr.len → (let cidr : Cidr = record { ip = ip; len = len } in prefix ≡ cidr) → (let cidr : Cidr = record { ip = ip; len = len } in IsPrefixValue cidr) → Reads IsAddr text (Ok addr) → ReadsWithin IsAddr IsPrefix text (Ok prefix)
prefix_read text addr prefix ip len e f is value reads =
    let same : prefix ≡ addr = is ∙ same_cidr addr ip len e f in
    let clear : host_bits prefix ≡ 0 = ap host_bits is ∙ value.1 in
    ((subst (λ (c : Cidr). IsAddr c text) (sym same) reads.0, clear), λ b spelled. reads.1 b spelled.0 ∙ sym same)

fault_bits : (fault : PrefixFault) (cidr : Cidr) → IsPrefixFault fault cidr → cidr.len ≤ ip_width cidr.ip → host_bits cidr ≡ 0 → ⊥
fault_bits Length cidr is le zero = omega arith
fault_bits HostBits cidr is le zero = is.1 zero

pub prefix_refused : (text : List ℕ) (addr : Cidr) (ip : Ip) (len : ℕ) (fault : PrefixFault) → ip ≡ addr.ip → len ≡ addr.len → IsAddrValue addr → (let cidr : Cidr = record { ip = ip; len = len } in IsPrefixFault fault cidr) → Reads IsAddr text (Ok addr) → ((a : Cidr) → IsPrefix a text → ⊥) × IsPlace IsAddr text (length text)
prefix_refused text addr ip len fault e f within is reads =
    let wrong : IsPrefixFault fault addr = subst (λ (c : Cidr). IsPrefixFault fault c) (same_cidr addr ip len e f) is in
    (λ a spelled. fault_bits fault addr wrong within (ap host_bits (sym (reads.1 a spelled.0)) ∙ spelled.1), end_place IsAddr text addr reads.0)

abbrev pub at_end : List ℕ → TextFault
at_end text = record { at = length text }
