use Rattle.std.proofs.Common.{◌∙◌, sym}
use Rattle.rib_descent.proofs.StepLaws.{differ, same_number, step-none, step-other_vrf, step-other_family, step-found, step-shorter}
use Rattle.rib_descent.proofs.descent.next_step.Goals as goal

pub returns-in_default : goal.returns-in_default
returns-in_default g c = step-none (g.T.KeyTable.keys c.args.table.now) c.requires.table.ascend c.requires.table.prefixes c.args.vrf c.args.ip c.args.len c.requires.within c.requires.up_to c.bound.result c.bound.ensures c.in_default.ensures

pub returns-then-ne : goal.returns-then-ne
returns-then-ne g c = step-other_vrf (g.T.KeyTable.keys c.args.table.now) c.requires.table.ascend c.requires.table.prefixes c.args.vrf c.args.ip c.args.len c.requires.within c.requires.up_to c.bound.result c.bound.ensures c.in-Some.key c.in-Some.ensures
    (differ c.in-Some.key.vrf c.args.vrf c.ne.result c.ne.ensures c.if-ne.true)

pub returns-in_default-common_len : goal.returns-in_default-common_len
returns-in_default-common_len g c = step-other_family (g.T.KeyTable.keys c.args.table.now) c.requires.table.ascend c.requires.table.prefixes c.args.vrf c.args.ip c.args.len c.requires.within c.requires.up_to c.bound.result c.bound.ensures c.in-Some.key c.in-Some.ensures
    c.ip.result c.ip.ensures c.in_default-common_len.ensures

pub returns-then-contains : goal.returns-then-contains
returns-then-contains g c = step-found (g.T.KeyTable.keys c.args.table.now) c.requires.table.ascend c.requires.table.prefixes c.args.vrf c.args.ip c.args.len c.requires.within c.requires.up_to c.bound.result c.bound.ensures c.in-Some.key c.in-Some.ensures
    (same_number c.in-Some.key.vrf c.args.vrf c.ne.result c.ne.ensures c.if-ne.false) (sym c.contains.ensures ∙ c.if-contains.true)

pub returns : goal.returns
returns g c = step-shorter (g.T.KeyTable.keys c.args.table.now) c.requires.table.ascend c.requires.table.prefixes c.args.vrf c.args.ip c.args.len c.requires.within c.requires.up_to c.bound.result c.bound.ensures c.in-Some.key c.in-Some.ensures
    (same_number c.in-Some.key.vrf c.args.vrf c.ne.result c.ne.ensures c.if-ne.false) c.ip.result c.in-Some-common_len.common c.ip.ensures c.in-Some-common_len.ensures (sym c.contains.ensures ∙ c.if-contains.false)
