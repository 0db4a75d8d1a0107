-- The first bits of a number, as a number of the same width.
use Rattle.std.proofs.Common.{◌≡◌, ◌≤◌, ◌<◌, ℕ, ◌+◌, ◌-◌, ◌*◌, ◌/◌, ◌^◌, true, refl, sym, ap, ◌∙◌, subst, arith}
use Rattle.std.proofs.Math.Nat.{div-div-eq-div-mul, div-mul-le_self, mul-le-mul_right, mul_assoc}
use Rattle.std.proofs.lemmas.Nat.{pow-add, pow_pos, le-div}
use Rattle.net_types.specs.declared.ip.Ip.{Ip}
use Rattle.net_types.specs.declared.ip.Ip.TheVariants.{V4, V6}
use Rattle.net_types.specs.Address.{ip_width, ip_number}
use Rattle.net_types.specs.Cidr.{Cidr}
use Rattle.net_types.specs.Prefix.{IsPrefix, network, contains}
use Rattle.route_laws.proofs.Prefixes.{Agreed, prefix_number}

-- a number of that width with the bits past the length cleared
abbrev pub cleared : ℕ → ℕ → ℕ → ℕ
cleared width len n = n / 2 ^ (width - len) * 2 ^ (width - len)

pub cleared-below : (width len n : ℕ) → cleared width len n ≤ n
cleared-below width len n = div-mul-le_self n (2 ^ (width - len))

fewer_bits : (n width short long : ℕ) → short ≤ long → long ≤ width → n / 2 ^ (width - short) ≡ n / 2 ^ (width - long) / 2 ^ (long - short)
fewer_bits n width short long shorter within =
    let sum : (width - long) + (long - short) ≡ width - short = omega arith in
    let power : 2 ^ (width - short) ≡ 2 ^ (width - long) * 2 ^ (long - short) = ap (λ (k : ℕ). 2 ^ k) (sym sum) ∙ pow-add 2 (width - long) (long - short) in
    ap (λ (m : ℕ). n / m) power ∙ sym (div-div-eq-div-mul n (2 ^ (width - long)) (2 ^ (long - short)))

-- more bits make no less
pub cleared_rises : (width short long n : ℕ) → short ≤ long → long ≤ width → cleared width short n ≤ cleared width long n
cleared_rises width short long n shorter within =
    let m = n / 2 ^ (width - long) in
    let d = long - short in
    let sum : d + (width - long) ≡ width - short = omega arith in
    let power : 2 ^ (width - short) ≡ 2 ^ d * 2 ^ (width - long) = ap (λ (k : ℕ). 2 ^ k) (sym sum) ∙ pow-add 2 d (width - long) in
    let is : cleared width short n ≡ m / 2 ^ d * 2 ^ d * 2 ^ (width - long) =
    ap (λ (q : ℕ). q * 2 ^ (width - short)) (fewer_bits n width short long shorter within) ∙ ap (λ (p : ℕ). m / 2 ^ d * p) power ∙ sym (mul_assoc (m / 2 ^ d) (2 ^ d) (2 ^ (width - long))) in
    let le : m / 2 ^ d * 2 ^ d * 2 ^ (width - long) ≤ m * 2 ^ (width - long) = mul-le-mul_right (2 ^ (width - long)) (div-mul-le_self m (2 ^ d)) in
    omega (arith, is, le)

-- what stands between a number and the number with its last bits cleared has the same first bits
pub squeezed : (width len n x : ℕ) → cleared width len n ≤ x → x ≤ n → x / 2 ^ (width - len) ≡ n / 2 ^ (width - len)
squeezed width len n x above below =
    let pos : 0 < 2 ^ (width - len) = pow_pos (width - len) in
    let ge : n / 2 ^ (width - len) ≤ x / 2 ^ (width - len) = le-div (n / 2 ^ (width - len)) x (2 ^ (width - len)) pos above in
    let under : x / 2 ^ (width - len) * 2 ^ (width - len) ≤ n = omega (arith, div-mul-le_self x (2 ^ (width - len)), below) in
    let le : x / 2 ^ (width - len) ≤ n / 2 ^ (width - len) = le-div (x / 2 ^ (width - len)) n (2 ^ (width - len)) pos under in
    omega (arith, ge, le)

-- of addresses
pub network-number : (len : ℕ) (ip : Ip) → ip_number (network len ip) ≡ cleared (ip_width ip) len (ip_number ip)
network-number len (V4 n) = refl
network-number len (V6 n) = refl

pub network-width : (len : ℕ) (ip : Ip) → ip_width (network len ip) ≡ ip_width ip
network-width len (V4 n) = refl
network-width len (V6 n) = refl

pub prefix_cleared : (p : Cidr) (ip : Ip) → IsPrefix p → contains p ip ≡ true → ip_number p.ip ≡ cleared (ip_width ip) p.len (ip_number ip)
prefix_cleared p ip is inside = prefix_number p ip is.1 inside

pub agreed-shorter : (short long : ℕ) (a b : Ip) → short ≤ long → long ≤ ip_width a → Agreed long a b → Agreed short a b
agreed-shorter short long a b shorter within h =
    let within_b : long ≤ ip_width b = subst (λ (w : ℕ). long ≤ w) h.family within in
    record { family = h.family; bits = fewer_bits (ip_number a) (ip_width a) short long shorter within ∙ ap (λ (m : ℕ). m / 2 ^ (long - short)) h.bits ∙ sym (fewer_bits (ip_number b) (ip_width b) short long shorter within_b) }

pub agreed-squeezed : (len : ℕ) (a ip : Ip) → ip_width a ≡ ip_width ip → cleared (ip_width ip) len (ip_number ip) ≤ ip_number a → ip_number a ≤ ip_number ip → Agreed len a ip
agreed-squeezed len a ip family above below = record { family = family; bits = ap (λ (w : ℕ). ip_number a / 2 ^ (w - len)) family ∙ squeezed (ip_width ip) len (ip_number ip) (ip_number a) above below }

-- what has the first bits of a number isn't below it with the other bits cleared
pub agreed-above : (len : ℕ) (a ip : Ip) → Agreed len a ip → cleared (ip_width ip) len (ip_number ip) ≤ ip_number a
agreed-above len a ip h =
    let is : cleared (ip_width a) len (ip_number a) ≡ cleared (ip_width ip) len (ip_number ip) = ap (λ (w : ℕ). ip_number a / 2 ^ (ip_width a - len) * 2 ^ (w - len)) h.family ∙ ap (λ (m : ℕ). m * 2 ^ (ip_width ip - len)) h.bits in
    omega (arith, is, cleared-below (ip_width a) len (ip_number a))
