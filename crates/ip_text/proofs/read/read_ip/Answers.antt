use Rattle.ip_text.specs.AddressText.{IsIp}
use Rattle.ip_text.specs.Values.{ip_of}
use Rattle.ip_text.proofs.IpValues.{ip_computes}
use Rattle.ip_text.proofs.ReadLaws.{reads_whole, value_read, fits}
use Rattle.ip_text.proofs.read.read_ip.Goals as goal

pub whole-requires : goal.whole-requires
whole-requires c = fits _ _ _ c.scan_ip-ip.ensures

pub returns : goal.returns
returns c =
    let reads = reads_whole IsIp _ _ _ c.whole.result c.scan_ip-ip.ensures c.whole.ensures in
    record { reads = reads; value = value_read IsIp IsIp ip_of c.args.text.now c.whole.result ip_computes reads }
