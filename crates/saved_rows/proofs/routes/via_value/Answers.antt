use Rattle.std.proofs.Common.{rules, subst}
use Rattle.std.specs.List.{AllByRecursion}
use Rattle.net_types.specs.KeyOrder.{hop_cmp}
use Rattle.json_form.specs.Lists.{Ascends}
use Rattle.saved_rows.proofs.Orders.{ascends_by, each_by}
use Rattle.saved_rows.specs.Values.{IsHopText}
use Rattle.saved_rows.proofs.routes.via_value.Goals as goal

pub returns-in-Ok-json-10-clause-legal : goal.returns-in-Ok-json-10-clause-legal
returns-in-Ok-json-10-clause-legal c =
    let up : Ascends hop_cmp c.args.hops.now = subst (Ascends hop_cmp) c.as_slice.ensures.value (ascends_by hop_cmp c.as_slice.result.now c.as_slice.ensures.ascending) in
    let spelled : AllByRecursion IsHopText c.args.hops.now = subst (AllByRecursion IsHopText) c.as_slice.ensures.value (each_by IsHopText c.as_slice.result.now c.in_ok-hops.ensures.legal) in
    ((search rules, c.in_ok-prefix.ensures.spells, search rules), (up, spelled))
