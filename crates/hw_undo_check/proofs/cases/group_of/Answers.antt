use Rattle.std.proofs.Common.{◌∙◌}
use Rattle.hw_undo_check.proofs.cases.group_of.Goals as goal

pub returns : goal.returns
returns c =
    let items = rw (c.host_of-first.ensures, c.host_of-second.ensures) at c.in_ok-vec.ensures.items in
    c.in_ok-shared.ensures.value ∙ c.from_vec-hosts.ensures ∙ items
