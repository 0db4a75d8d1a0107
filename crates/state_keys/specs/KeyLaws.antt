-- The numbers of the keys of each part are ordered as the keys are, and give their keys back.
use Rattle.std.proofs.Common.{◌≡◌, ℕ, ◌<◌, ◌≤◌, ◌%◌, ◌^◌, ◌==◌, [], ◌∷◌, if◌then◌else◌, refl, sym, ap, ◌∙◌, arith}
use Rattle.std.specs.Ordering.{nat_cmp, ordering_then}
use Rattle.std.specs.declared.cmp.Ordering.{Ordering}
use Rattle.std.specs.declared.cmp.Ordering.TheVariants.{Less, Equal, Greater}
use Rattle.net_types.specs.declared.client.Client.{Client}
use Rattle.net_types.specs.declared.client.Client.TheVariants.{Interface, Static, Openr, Ebgp, Ibgp}
use Rattle.net_types.specs.declared.ip.Ip.{Ip}
use Rattle.net_types.specs.declared.ip.Ip.TheVariants.{V4, V6}
use Rattle.net_types.specs.declared.table.L2Key.{L2Key}
use Rattle.net_types.specs.declared.table.RouteKey.{RouteKey}
use Rattle.net_types.specs.Address.{ip_number, ip_width}
use Rattle.net_types.specs.Cidr.{Cidr}
use Rattle.net_types.specs.Clients.{client_number}
use Rattle.net_types.specs.KeyOrder.{ip_cmp, l2_cmp, prefix_cmp, route_cmp}
use Rattle.net_types.specs.Range.{IsIntf, IsPort, IsVlan}
use Rattle.switch_model.specs.declared.key.NeighborKey.{NeighborKey}
use Rattle.switch_model.specs.declared.key.RibKey.{RibKey}
use Rattle.switch_model.specs.StateKeys.{client_cmp, neighbor_cmp, rib_cmp}
use Rattle.state_keys.specs.BitLaws.{Fit, nat_cmp-filled}
use Rattle.state_keys.specs.Bits.{field, filled}
use Rattle.state_keys.specs.Numbering.{IsNumbering}
use Rattle.state_keys.specs.PartKeys.{family, vlan_number, port_number, intf_number, station_number, neighbor_number, rib_number, fib_number, vlan_of, port_of, intf_of, station_of, arp_of, ndp_of, ip_of, prefix_of, client_by, rib_of, fib_of, IsStation, IsArp, IsNdp, IsFib, IsRib}

pub then-equal : (o : Ordering) → ordering_then o Equal ≡ o
then-equal Less = refl
then-equal Equal = refl
then-equal Greater = refl

then-then : (o p q : Ordering) → ordering_then (ordering_then o p) q ≡ ordering_then o (ordering_then p q)
then-then Less p q = refl
then-then Equal p q = refl
then-then Greater p q = refl

pub numbering : {K : Type 0} (cmp : K → K → Ordering) (Is : K → Type 0) (number : K → ℕ) (of : ℕ → K) → ((a b : K) → Is a → Is b → nat_cmp (number a) (number b) ≡ cmp a b) → ((a : K) → Is a → of (number a) ≡ a) → IsNumbering cmp Is number of
numbering cmp Is number of order back = record {
  order = order;
  back = back;
  distinct = λ a b is is2 same. sym (back a is) ∙ ap of same ∙ back b is2;
}

pub vlan_numbering : IsNumbering nat_cmp IsVlan vlan_number vlan_of
vlan_numbering = numbering nat_cmp IsVlan vlan_number vlan_of
    (λ a b is is2. nat_cmp-filled 192 ((16, a) ∷ []) ((16, b) ∷ []) (refl, tt) (omega arith, omega arith, tt) (omega arith, omega arith, tt) ∙ then-equal (nat_cmp a b))
    (λ a is. omega arith)

pub port_numbering : IsNumbering nat_cmp IsPort port_number port_of
port_numbering = numbering nat_cmp IsPort port_number port_of
    (λ a b is is2. nat_cmp-filled 192 ((16, a) ∷ []) ((16, b) ∷ []) (refl, tt) (omega arith, omega arith, tt) (omega arith, omega arith, tt) ∙ then-equal (nat_cmp a b))
    (λ a is. omega arith)

pub intf_numbering : IsNumbering nat_cmp IsIntf intf_number intf_of
intf_numbering = numbering nat_cmp IsIntf intf_number intf_of
    (λ a b is is2. nat_cmp-filled 192 ((32, a) ∷ []) ((32, b) ∷ []) (refl, tt) (omega arith, omega arith, tt) (omega arith, omega arith, tt) ∙ then-equal (nat_cmp a b))
    (λ a is. omega arith)

-- stations
station_fits : (k : L2Key) → IsStation k → Fit 192 ((16, k.vlan) ∷ (48, k.mac) ∷ [])
station_fits k is = let vlan = is.vlan in let mac = is.mac in (omega arith, omega arith, (omega arith, omega arith, tt))

station_is : (k : L2Key) (vlan mac : ℕ) → vlan ≡ k.vlan → mac ≡ k.mac → record { vlan = vlan; mac = mac } ≡ k
station_is k vlan mac same_vlan same_mac = ap (λ (n : ℕ). record { vlan = n; mac = mac }) same_vlan ∙ ap (λ (n : ℕ). record k { mac = n }) same_mac

pub station_numbering : IsNumbering l2_cmp IsStation station_number station_of
station_numbering = numbering l2_cmp IsStation station_number station_of
    (λ a b is is2. nat_cmp-filled 192 ((16, a.vlan) ∷ (48, a.mac) ∷ []) ((16, b.vlan) ∷ (48, b.mac) ∷ []) (refl, (refl, tt)) (station_fits a is) (station_fits b is2) ∙ ap (λ (o : Ordering). ordering_then (nat_cmp a.vlan b.vlan) o) (then-equal (nat_cmp a.mac b.mac)))
    (λ k is.
    let vlan = is.vlan in
    let mac = is.mac in
    let n : ℕ = station_number k in
    station_is k (field 0 16 n) (field 16 48 n) (omega arith) (omega arith))

-- neighbours
same_family : (a b : Ip) → family a ≡ family b → nat_cmp (ip_number a) (ip_number b) ≡ ip_cmp a b
same_family (V4 n) (V4 m) h = refl
same_family (V4 n) (V6 m) h = absurd (omega arith)
same_family (V6 n) (V4 m) h = absurd (omega arith)
same_family (V6 n) (V6 m) h = refl

neighbor_order : (a b : NeighborKey) → IsIntf a.intf → IsIntf b.intf → family a.ip ≡ family b.ip → ip_number a.ip < 2 ^ 128 → ip_number b.ip < 2 ^ 128 → nat_cmp (neighbor_number a) (neighbor_number b) ≡ neighbor_cmp a b
neighbor_order a b intf intf2 same ip ip2 =
    nat_cmp-filled 192 ((32, a.intf) ∷ (128, ip_number a.ip) ∷ []) ((32, b.intf) ∷ (128, ip_number b.ip) ∷ []) (refl, (refl, tt)) (omega arith, omega arith, (omega arith, omega arith, tt)) (omega arith, omega arith, (omega arith, omega arith, tt))
    ∙ ap (λ (o : Ordering). ordering_then (nat_cmp a.intf b.intf) o) (then-equal (nat_cmp (ip_number a.ip) (ip_number b.ip)) ∙ same_family a.ip b.ip same)

v4-number : (ip : Ip) → family ip ≡ 0 → V4 (ip_number ip) ≡ ip
v4-number (V4 n) h = refl
v4-number (V6 n) h = absurd (omega arith)

v6-number : (ip : Ip) → family ip ≡ 1 → V6 (ip_number ip) ≡ ip
v6-number (V4 n) h = absurd (omega arith)
v6-number (V6 n) h = refl

neighbor_is : (k : NeighborKey) (intf : ℕ) (ip : Ip) → intf ≡ k.intf → ip ≡ k.ip → record { intf = intf; ip = ip } ≡ k
neighbor_is k intf ip same_intf same_ip = ap (λ (n : ℕ). record { intf = n; ip = ip }) same_intf ∙ ap (λ (i : Ip). record k { ip = i }) same_ip

pub arp_numbering : IsNumbering neighbor_cmp IsArp neighbor_number arp_of
arp_numbering = numbering neighbor_cmp IsArp neighbor_number arp_of
    (λ a b is is2. let ip = is.ip in let ip2 = is2.ip in neighbor_order a b is.intf is2.intf (is.family ∙ sym is2.family) (omega arith) (omega arith))
    (λ k is.
    let intf = is.intf in
    let ip = is.ip in
    let n : ℕ = neighbor_number k in
    neighbor_is k (field 0 32 n) (V4 (field 128 32 n)) (omega arith) (ap V4 (omega arith) ∙ v4-number k.ip is.family))

pub ndp_numbering : IsNumbering neighbor_cmp IsNdp neighbor_number ndp_of
ndp_numbering = numbering neighbor_cmp IsNdp neighbor_number ndp_of
    (λ a b is is2. neighbor_order a b is.intf is2.intf (is.family ∙ sym is2.family) is.ip is2.ip)
    (λ k is.
    let intf = is.intf in
    let ip = is.ip in
    let n : ℕ = neighbor_number k in
    neighbor_is k (field 0 32 n) (V6 (field 32 128 n)) (omega arith) (ap V6 (omega arith) ∙ v6-number k.ip is.family))

-- prefixes
family_first : (a b : Ip) (rest : Ordering) → ordering_then (nat_cmp (family a) (family b)) (ordering_then (nat_cmp (ip_number a) (ip_number b)) rest) ≡ ordering_then (ip_cmp a b) rest
family_first (V4 n) (V4 m) rest = refl
family_first (V4 n) (V6 m) rest = refl
family_first (V6 n) (V4 m) rest = refl
family_first (V6 n) (V6 m) rest = refl

pub prefix_first : (a b : Cidr) (rest : Ordering) → ordering_then (nat_cmp (family a.ip) (family b.ip)) (ordering_then (nat_cmp (ip_number a.ip) (ip_number b.ip)) (ordering_then (nat_cmp a.len b.len) rest)) ≡ ordering_then (prefix_cmp a b) rest
prefix_first a b rest = family_first a.ip b.ip (ordering_then (nat_cmp a.len b.len) rest) ∙ sym (then-then (ip_cmp a.ip b.ip) (nat_cmp a.len b.len) rest)

-- what an ip and a length of its family keep to
pub record IsWithin (ip : Ip) (len : ℕ) : Type 0 where
  pub bit : family ip < 2 ^ 1
  pub number : ip_number ip < 2 ^ 128
  pub short : len < 2 ^ 8

pub within : (ip : Ip) (len : ℕ) → ip_number ip < 2 ^ ip_width ip → len ≤ ip_width ip → IsWithin ip len
within (V4 n) len fits short = record { bit = omega arith; number = omega arith; short = omega arith }
within (V6 n) len fits short = record { bit = omega arith; number = omega arith; short = omega arith }

pub ip_back : (ip : Ip) (bit v4 v6 : ℕ) → ip_number ip < 2 ^ ip_width ip → bit ≡ family ip → v4 ≡ ip_number ip % 2 ^ 32 → v6 ≡ ip_number ip → (if bit == 0 then V4 v4 else V6 v6) ≡ ip
ip_back (V4 n) bit v4 v6 fits is is4 is6 = rw is (ap V4 (omega arith))
ip_back (V6 n) bit v4 v6 fits is is4 is6 = rw is (ap V6 is6)

pub prefix_is : (p : Cidr) (ip : Ip) (len : ℕ) → ip ≡ p.ip → len ≡ p.len → record { ip = ip; len = len } ≡ p
prefix_is p ip len same_ip same_len = ap (λ (i : Ip). record { ip = i; len = len }) same_ip ∙ ap (λ (n : ℕ). record p { len = n }) same_len

-- entries of the FIB
fib_fits : (k : RouteKey) → IsFib k → Fit 192 ((16, k.vrf) ∷ (1, family k.prefix.ip) ∷ (128, ip_number k.prefix.ip) ∷ (8, k.prefix.len) ∷ [])
fib_fits k is =
    let most = within k.prefix.ip k.prefix.len is.ip is.prefix.0 in
    (is.vrf, omega arith, (most.bit, omega arith, (most.number, omega arith, (most.short, omega arith, tt))))

fib_is : (k : RouteKey) (vrf : ℕ) (prefix : Cidr) → vrf ≡ k.vrf → prefix ≡ k.prefix → record { vrf = vrf; prefix = prefix } ≡ k
fib_is k vrf prefix same_vrf same_prefix = ap (λ (n : ℕ). record { vrf = n; prefix = prefix }) same_vrf ∙ ap (λ (p : Cidr). record k { prefix = p }) same_prefix

pub fib_numbering : IsNumbering route_cmp IsFib fib_number fib_of
fib_numbering = numbering route_cmp IsFib fib_number fib_of
    (λ a b is is2. nat_cmp-filled 192 ((16, a.vrf) ∷ (1, family a.prefix.ip) ∷ (128, ip_number a.prefix.ip) ∷ (8, a.prefix.len) ∷ []) ((16, b.vrf) ∷ (1, family b.prefix.ip) ∷ (128, ip_number b.prefix.ip) ∷ (8, b.prefix.len) ∷ []) (refl, (refl, (refl, (refl, tt)))) (fib_fits a is) (fib_fits b is2)
    ∙ ap (λ (o : Ordering). ordering_then (nat_cmp a.vrf b.vrf) o) (prefix_first a.prefix b.prefix Equal ∙ then-equal (prefix_cmp a.prefix b.prefix)))
    (λ k is.
    let most = within k.prefix.ip k.prefix.len is.ip is.prefix.0 in
    let bit = most.bit in
    let number = most.number in
    let len = most.short in
    let vrf = is.vrf in
    let n : ℕ = fib_number k in
    let first : field 0 16 n ≡ k.vrf = omega arith in
    let ip : ip_of n ≡ k.prefix.ip = ip_back k.prefix.ip (field 16 1 n) (field 113 32 n) (field 17 128 n) is.ip (omega arith) (omega arith) (omega arith) in
    let prefix : prefix_of n ≡ k.prefix = prefix_is k.prefix (ip_of n) (field 145 8 n) ip (omega arith) in
    fib_is k (field 0 16 n) (prefix_of n) first prefix)

-- routes
pub client_small : (c : Client) → client_number c < 2 ^ 3
client_small Interface = omega arith
client_small Static = omega arith
client_small Openr = omega arith
client_small Ebgp = omega arith
client_small Ibgp = omega arith

client_back : (c : Client) (n : ℕ) → n ≡ client_number c → client_by n ≡ c
client_back Interface n is = rw is refl
client_back Static n is = rw is refl
client_back Openr n is = rw is refl
client_back Ebgp n is = rw is refl
client_back Ibgp n is = rw is refl

rib_fits : (k : RibKey) → IsRib k → Fit 192 ((16, k.vrf) ∷ (1, family k.prefix.ip) ∷ (128, ip_number k.prefix.ip) ∷ (8, k.prefix.len) ∷ (3, client_number k.client) ∷ [])
rib_fits k is =
    let most = within k.prefix.ip k.prefix.len is.ip is.prefix.0 in
    (is.vrf, omega arith, (most.bit, omega arith, (most.number, omega arith, (most.short, omega arith, (client_small k.client, omega arith, tt)))))

rib_is : (k : RibKey) (vrf : ℕ) (prefix : Cidr) (client : Client) → vrf ≡ k.vrf → prefix ≡ k.prefix → client ≡ k.client → record { vrf = vrf; prefix = prefix; client = client } ≡ k
rib_is k vrf prefix client same_vrf same_prefix same_client = ap (λ (n : ℕ). record { vrf = n; prefix = prefix; client = client }) same_vrf ∙ ap (λ (p : Cidr). record { vrf = k.vrf; prefix = p; client = client }) same_prefix ∙ ap (λ (c : Client). record k { client = c }) same_client

pub rib_numbering : IsNumbering rib_cmp IsRib rib_number rib_of
rib_numbering = numbering rib_cmp IsRib rib_number rib_of
    (λ a b is is2. nat_cmp-filled 192 ((16, a.vrf) ∷ (1, family a.prefix.ip) ∷ (128, ip_number a.prefix.ip) ∷ (8, a.prefix.len) ∷ (3, client_number a.client) ∷ []) ((16, b.vrf) ∷ (1, family b.prefix.ip) ∷ (128, ip_number b.prefix.ip) ∷ (8, b.prefix.len) ∷ (3, client_number b.client) ∷ []) (refl, (refl, (refl, (refl, (refl, tt))))) (rib_fits a is) (rib_fits b is2)
    ∙ ap (λ (o : Ordering). ordering_then (nat_cmp a.vrf b.vrf) o) (prefix_first a.prefix b.prefix (ordering_then (client_cmp a.client b.client) Equal) ∙ ap (λ (o : Ordering). ordering_then (prefix_cmp a.prefix b.prefix) o) (then-equal (client_cmp a.client b.client))))
    (λ k is.
    let most = within k.prefix.ip k.prefix.len is.ip is.prefix.0 in
    let bit = most.bit in
    let number = most.number in
    let len = most.short in
    let small = client_small k.client in
    let vrf = is.vrf in
    let n : ℕ = rib_number k in
    let first : field 0 16 n ≡ k.vrf = omega arith in
    let ip : ip_of n ≡ k.prefix.ip = ip_back k.prefix.ip (field 16 1 n) (field 113 32 n) (field 17 128 n) is.ip (omega arith) (omega arith) (omega arith) in
    let prefix : prefix_of n ≡ k.prefix = prefix_is k.prefix (ip_of n) (field 145 8 n) ip (omega arith) in
    let client : client_by (field 153 3 n) ≡ k.client = client_back k.client (field 153 3 n) (omega arith) in
    rib_is k (field 0 16 n) (prefix_of n) (client_by (field 153 3 n)) first prefix client)
