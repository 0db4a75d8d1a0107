use Rattle.std.proofs.Common.{◌+◌, ◌/◌, ◌%◌, ◌∷◌, []}
use Rattle.std.specs.Fmt.{decimal}
use Rattle.ip_text.proofs.WriteLaws.{then_wrote, wrote_same, decimal_one, decimal_more}
use Rattle.ip_text.proofs.write.+write_decimal.Goals as goal

pub returns-then-number-lt10-clause-ok : goal.returns-then-number-lt10-clause-ok
returns-then-number-lt10-clause-ok t c = wrote_same c.write_byte.result c.args.text.now.items c.write_byte.new.text.items ((48 + c.args.number) ∷ []) (decimal c.args.number) (decimal_one c.args.number c.if-number-lt10.true) c.write_byte.ensures.ok

pub returns-clause-ok : goal.returns-clause-ok
returns-clause-ok t c = then_wrote c.write_byte-2.result c.args.text.now.items c.write_decimal.new.text.items c.write_byte-2.new.text.items (decimal (c.args.number / 10)) ((48 + c.args.number % 10) ∷ []) (decimal c.args.number) c.in_ok-write_decimal.ensures.ok (decimal_more c.args.number c.if-number-lt10.false c.ranges.number.fits) c.write_byte-2.ensures.ok
