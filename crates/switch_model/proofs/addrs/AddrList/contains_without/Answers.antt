use Rattle.std.proofs.Common.{List, ap, sym, ◌∙◌}
use Rattle.std.specs.List.{list_any}
use Rattle.keyed.specs.SetLaws.{delete_filter}
use Rattle.keyed.specs.Sets.{delete}
use Rattle.net_types.specs.Cidr.{Cidr}
use Rattle.net_types.specs.Prefix.{contains}
use Rattle.switch_model.specs.Addresses.{addr_cmp, addr_total, subnets}
use Rattle.switch_model.proofs.addrs.AddrList.contains_without.Goals as goal

pub returns : goal.returns
returns c =
    let kept = rw c.as_slice.ensures.value at c.contains_elsewhere.ensures in
    kept
    ∙ ap (λ (l : List Cidr). list_any (λ subnet. contains subnet c.args.ip) (subnets l)) (sym (delete_filter addr_cmp addr_total c.args.gone.now c.self.inside.addrs.items c.self.invariant) ∙ ap (delete addr_cmp c.args.gone.now) c.self.view_is)
