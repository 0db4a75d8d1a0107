use Rattle.std.proofs.Common.{Ok, Err}
use Rattle.ip_text.specs.AddressText.{IsAddr, IsPrefix}
use Rattle.ip_text.specs.Values.{prefix_of}
use Rattle.ip_text.proofs.IpValues.{prefix_computes}
use Rattle.ip_text.proofs.PrefixLaws.{no_addr, prefix_read, prefix_refused, at_end}
use Rattle.ip_text.proofs.ReadLaws.{value_read}
use Rattle.ip_text.proofs.read.read_prefix.Goals as goal

pub returns-in-Err : goal.returns-in-Err
returns-in-Err c =
    let reads = no_addr _ c.in-Err.fault c.in-Err.ensures.reads in
    record { reads = reads; value = value_read IsAddr IsPrefix prefix_of c.args.text.now (Err c.in-Err.fault) prefix_computes reads }

pub returns-in-Ok-new : goal.returns-in-Ok-new
returns-in-Ok-new c =
    let is = c.in-Ok-new.ensures in
    let reads = prefix_read _ c.in-Ok.addr c.in-Ok-new.prefix c.ip.result c.len.result c.ip.ensures c.len.ensures.value is.0 is.1 c.in-Ok.ensures.reads in
    record { reads = reads; value = value_read IsAddr IsPrefix prefix_of c.args.text.now (Ok c.in-Ok-new.prefix) prefix_computes reads }

pub returns-in-Err-new : goal.returns-in-Err-new
returns-in-Err-new c =
    let reads = prefix_refused _ c.in-Ok.addr c.ip.result c.len.result c.in-Err-new.field-0 c.ip.ensures c.len.ensures.value c.len.ensures.range c.in-Err-new.ensures c.in-Ok.ensures.reads in
    record { reads = reads; value = value_read IsAddr IsPrefix prefix_of c.args.text.now (Err (at_end c.args.text.now)) prefix_computes reads }
