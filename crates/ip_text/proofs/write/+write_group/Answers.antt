use Rattle.std.proofs.Common.{◌/◌, ◌∷◌, [], ◌++◌, ap, ◌∙◌}
use Rattle.ip_text.specs.Printed.{group_text}
use Rattle.ip_text.proofs.WriteLaws.{then_wrote, wrote_same, hex_one, hex_more}
use Rattle.ip_text.proofs.write.+write_group.Goals as goal

pub returns-then-group-lt16-clause-ok : goal.returns-then-group-lt16-clause-ok
returns-then-group-lt16-clause-ok t c = wrote_same c.write_byte.result c.args.text.now.items c.write_byte.new.text.items (c.glyph.result ∷ []) (group_text c.args.group) (ap (λ b. b ∷ []) c.glyph.ensures ∙ hex_one c.args.group c.if-group-lt16.true) c.write_byte.ensures.ok

pub returns-clause-ok : goal.returns-clause-ok
returns-clause-ok t c = then_wrote c.write_byte-2.result c.args.text.now.items c.write_group.new.text.items c.write_byte-2.new.text.items (group_text (c.args.group / 16)) (c.glyph-2.result ∷ []) (group_text c.args.group) c.in_ok-write_group.ensures.ok (ap (λ b. group_text (c.args.group / 16) ++ b ∷ []) c.glyph-2.ensures ∙ hex_more c.args.group c.if-group-lt16.false c.ranges.group.fits) c.write_byte-2.ensures.ok
