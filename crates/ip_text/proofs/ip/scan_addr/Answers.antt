use Rattle.std.proofs.Common.{◌∙◌, ℕ, subst}
use Rattle.ip_text.specs.Numerals.{IsNumber}
use Rattle.ip_text.specs.Scans.{Scans}
use Rattle.ip_text.proofs.IpLaws.{addr_on, addr_stops, not_some}
use Rattle.ip_text.proofs.ip.scan_addr.Goals as goal

pub returns-in_default : goal.returns-in_default
returns-in_default c = addr_stops _ _ _ c.scan_ip-ip.ensures (λ next a e some. not_some _ a c.in_default.is some)

pub returns-in_default-after : goal.returns-in_default-after
returns-in_default-after c = addr_stops _ _ _ c.scan_ip-ip.ensures (λ next a e some. c.in_default-after.ensures next e)

pub returns : goal.returns
returns c =
    let len = subst (λ (n : ℕ). Scans (IsNumber 0 n) c.in-Some-after.next.now c.number-len.result.0 c.number-len.result.1.now) (c.from.ensures ∙ c.width.ensures) c.number-len.ensures.scan in
    addr_on c.in-Some.ip _ _ _ _ _ _ (rw c.in-Some.is at c.scan_ip-ip.ensures) c.in-Some-after.ensures len c.addr_of.ensures
