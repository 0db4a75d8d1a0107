use Rattle.std.proofs.Common.{ap, ◌∙◌}
use Rattle.std.specs.Option.{option_copied}
use Rattle.subnet_index.specs.SubnetList.{add_come, cut_gone}
use Rattle.subnet_index.proofs.Changing.{subnets_changed}
use Rattle.subnet_index.proofs.subnets.Subnets.change.Goals as goal

pub returns : goal.returns
returns c = λ intfs asc same before.
    let old = option_copied c.args.old in
    let new = option_copied c.args.new in
    let i = c.args.intf in
    c.in_ok-index.ensures ∙ ap (add_come i old new) (c.in_ok-rest.ensures ∙ ap (cut_gone i old new) same) ∙ subnets_changed intfs i old new asc before
