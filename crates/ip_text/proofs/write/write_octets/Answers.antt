use Rattle.std.proofs.Common.{◌++◌, ap, sym, ◌∙◌}
use Rattle.ip_text.specs.Rows.{joint, octet_text}
use Rattle.ip_text.proofs.JoinLaws.{row_more}
use Rattle.ip_text.proofs.WriteLaws.{wrote, longer, refused}
use Rattle.ip_text.proofs.write.write_octets.Goals as goal

pub returns-in_err-write_next_octet-clause-err : goal.returns-in_err-write_next_octet-clause-err
returns-in_err-write_next_octet-clause-err c = refused c.from_residual.result (longer _ _ _ _ c.loop-at.invariant c.in_err-write_next_octet.ensures.err)

pub loop-at-preserved : goal.loop-at-preserved
loop-at-preserved c = wrote _ _ _ _ _ c.loop-at.invariant c.in_ok-write_next_octet.ensures.ok ∙ ap (λ l. c.args.text.now.items ++ l) (sym (row_more (joint c.args.style) (octet_text c.args.style) c.args.octets.now c.loop-at.at c.loop-at-test.true))
