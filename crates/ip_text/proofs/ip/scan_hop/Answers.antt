use Rattle.std.proofs.Common.{ap, sym, subst, ℕ}
use Rattle.std.specs.Prelude.{option_map}
use Rattle.ip_text.specs.Numerals.{IsNumber}
use Rattle.ip_text.specs.Scans.{Scans}
use Rattle.ip_text.proofs.IpLaws.{bare, hop_on, hop_stops, not_some}
use Rattle.ip_text.proofs.ip.scan_hop.Goals as goal

pub returns-in_default : goal.returns-in_default
returns-in_default c = hop_stops _ _ _ _ c.scan_ip-ip.ensures (λ next a e some. not_some _ a c.in_default.is some) (ap (option_map bare) (sym c.in_default.is))

pub returns-in_default-after : goal.returns-in_default-after
returns-in_default-after c = hop_stops _ _ _ _ c.scan_ip-ip.ensures (λ next a e some. c.in_default-after.ensures next e) (ap (option_map bare) (sym c.in-Some.is))

pub returns : goal.returns
returns c =
    let intf = subst (λ (n : ℕ). Scans (IsNumber 1 n) c.in-Some-after.next.now c.number-intf.result.0 c.number-intf.result.1.now) c.from.ensures c.number-intf.ensures.scan in
    hop_on c.in-Some.ip _ _ _ _ _ _ (rw c.in-Some.is at c.scan_ip-ip.ensures) c.in-Some-after.ensures intf c.hop_by.ensures
