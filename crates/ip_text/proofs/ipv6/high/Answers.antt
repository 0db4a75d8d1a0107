use Rattle.std.proofs.Common.{◌+◌, ◌*◌, ◌^◌, Some, arith, sym, ap, ◌∙◌, ◌-◌}
use Rattle.std.specs.Prelude.{option_map}
use Rattle.ip_text.specs.Unread.{IsBehind}
use Rattle.ip_text.proofs.Powers.{high_fits, before_fits}
use Rattle.ip_text.proofs.ScanLaws.{scans_map}
use Rattle.ip_text.proofs.ItemLaws.{none_mapped}
use Rattle.ip_text.proofs.PartLaws.{in_range}
use Rattle.ip_text.proofs.ipv6.high.Goals as goal

pub scaled-requires : goal.scaled-requires
scaled-requires c = before_fits _ _ c.requires.small c.requires.some c.requires.few

pub overflow_add-result : goal.overflow_add-result
overflow_add-result c = omega (arith, c.scaled.ensures, high_fits c.args.before c.args.count c.in-Some.low c.requires.small c.requires.some c.requires.few (in_range _ _ _ c.in-Some.is c.behind-low.ensures.range))

pub returns-in-Some : goal.returns-in-Some
returns-in-Some c = scans_map (λ low. c.args.before * 65536 ^ c.args.count + low) (IsBehind (c.args.count - 1)) _ _ _ _ (ap (λ n. Some (n + c.in-Some.low)) c.scaled.ensures ∙ ap (option_map (λ low. c.args.before * 65536 ^ c.args.count + low)) (sym c.in-Some.is)) c.behind-low.ensures.scan

pub returns-in-None : goal.returns-in-None
returns-in-None c = scans_map (λ low. c.args.before * 65536 ^ c.args.count + low) (IsBehind (c.args.count - 1)) _ _ _ _ (none_mapped (λ low. c.args.before * 65536 ^ c.args.count + low) _ c.in-None.is) c.behind-low.ensures.scan
