use Rattle.std.proofs.Common.{sym, subst, ℕ, Option}
use Rattle.ip_text.specs.AddressText.{IsMac}
use Rattle.ip_text.specs.Scans.{Scans}
use Rattle.ip_text.specs.Values.{mac_of}
use Rattle.ip_text.proofs.IpValues.{mac_computes}
use Rattle.ip_text.proofs.ReadLaws.{reads_whole, value_read}
use Rattle.ip_text.proofs.read.read_mac.Goals as goal

pub returns : goal.returns
returns c =
    let scan = subst (λ (v : Option ℕ). Scans IsMac c.args.text.now v c.read_row-number.result.1.now) (sym c.mac_of.ensures) c.read_row-number.ensures.scan in
    let reads = reads_whole IsMac _ _ _ c.whole.result scan c.whole.ensures in
    record { reads = reads; value = value_read IsMac IsMac mac_of c.args.text.now c.whole.result mac_computes reads }
