use Rattle.ip_text.specs.AddressText.{IsAddr}
use Rattle.ip_text.specs.Values.{addr_of}
use Rattle.ip_text.proofs.IpValues.{addr_computes}
use Rattle.ip_text.proofs.ReadLaws.{reads_whole, value_read, fits}
use Rattle.ip_text.proofs.read.read_addr.Goals as goal

pub whole-requires : goal.whole-requires
whole-requires c = fits _ _ _ c.scan_addr-addr.ensures

pub returns : goal.returns
returns c =
    let reads = reads_whole IsAddr _ _ _ c.whole.result c.scan_addr-addr.ensures c.whole.ensures in
    record { reads = reads; value = value_read IsAddr IsAddr addr_of c.args.text.now c.whole.result addr_computes reads }
