use Rattle.std.proofs.Common.{ap, ◌∙◌}
use Rattle.std.specs.Option.{option_copied}
use Rattle.state_index.specs.MemberList.{cut_member, put_member}
use Rattle.state_index.proofs.Changing.{members_changed}
use Rattle.state_index.proofs.members.Members.change.Goals as goal

pub returns : goal.returns
returns c = λ intfs asc same before.
    let old = option_copied c.args.old in
    let new = option_copied c.args.new in
    let i = c.args.intf in
    c.in_ok-index.ensures ∙ ap (put_member i old new) (c.in_ok-rest.ensures ∙ ap (cut_member i old new) same) ∙ members_changed intfs i old new asc before
