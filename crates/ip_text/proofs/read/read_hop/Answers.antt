use Rattle.ip_text.specs.AddressText.{IsHop}
use Rattle.ip_text.specs.Values.{hop_of}
use Rattle.ip_text.proofs.IpValues.{hop_computes}
use Rattle.ip_text.proofs.ReadLaws.{reads_whole, value_read, fits}
use Rattle.ip_text.proofs.read.read_hop.Goals as goal

pub whole-requires : goal.whole-requires
whole-requires c = fits _ _ _ c.scan_hop-hop.ensures

pub returns : goal.returns
returns c =
    let reads = reads_whole IsHop _ _ _ c.whole.result c.scan_hop-hop.ensures c.whole.ensures in
    record { reads = reads; value = value_read IsHop IsHop hop_of c.args.text.now c.whole.result hop_computes reads }
