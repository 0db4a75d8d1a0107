use Rattle.std.proofs.Common.{rules, subst}
use Rattle.std.specs.List.{AllByRecursion}
use Rattle.switch_model.specs.Addresses.{addr_cmp}
use Rattle.json_form.specs.Lists.{Ascends}
use Rattle.saved_rows.proofs.Orders.{ascends_by, each_by}
use Rattle.saved_rows.specs.Values.{IsAddrText}
use Rattle.saved_rows.proofs.state.intf_value.Goals as goal

pub returns-in-Ok-json-10-clause-legal : goal.returns-in-Ok-json-10-clause-legal
returns-in-Ok-json-10-clause-legal c =
    let up : Ascends addr_cmp c.args.rec.now.addrs = subst (Ascends addr_cmp) c.as_slice.ensures.value (ascends_by addr_cmp c.as_slice.result.now c.as_slice.ensures.ascending) in
    let spelled : AllByRecursion IsAddrText c.args.rec.now.addrs = subst (AllByRecursion IsAddrText) c.as_slice.ensures.value (each_by IsAddrText c.as_slice.result.now c.in_ok-addrs.ensures.legal) in
    (search rules, search rules, search rules, c.in_ok-mac.ensures.spells, (up, spelled))
