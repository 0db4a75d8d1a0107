use Rattle.std.proofs.Common.{◌+◌, ◌*◌, arith}
use Rattle.ip_text.proofs.LeftLaws.{left_high}
use Rattle.ip_text.proofs.LeftScans.{left_one}
use Rattle.ip_text.proofs.ItemLaws.{some_mapped, none_mapped}
use Rattle.ip_text.proofs.ipv6.left_one.Goals as goal

pub returns-in-Some : goal.returns-in-Some
returns-in-Some c = left_high 1 c.args.before _ _ _ _ (omega arith) c.in-Some.ensures c.high.ensures

pub returns-in-Some-group : goal.returns-in-Some-group
returns-in-Some-group c = left_one c.args.before _ _ _ _ c.in_default.ensures c.hex_digits-group.ensures.scan (some_mapped (λ g. 65536 * c.args.before + g) _ _ _ c.from.ensures c.in-Some-group.is)

pub returns-in-None : goal.returns-in-None
returns-in-None c = left_one c.args.before _ _ _ _ c.in_default.ensures c.hex_digits-group.ensures.scan (none_mapped (λ g. 65536 * c.args.before + g) _ c.in-None.is)
