use Rattle.std.proofs.Common.{◌≡◌, refl, sym, ap, ◌∙◌}
use Rattle.std.specs.Option.{option_copied}
use Rattle.state_keys.specs.KeyLaws.{arp_numbering, ndp_numbering}
use Rattle.state_keys.specs.PartKeys.{family}
use Rattle.state_scan.proofs.Looking.{looked_up}
use Rattle.state_scan.proofs.Neighbors.{arp_found, ndp_found}
use Rattle.state_scan.proofs.scan.neighbor_under.Goals as goal

pub returns-in-V4 : goal.returns-in-V4
returns-in-V4 c =
    let kind : family c.args.key.now.ip ≡ 0 = ap family c.in-V4.is in
    looked_up arp_numbering c.args.key.now c.neighbor_key.result c.args.arps.now c.args.arps.now (option_copied c.record_under.result) (c.neighbor_key.ensures.arp kind) c.neighbor_key.ensures.key refl c.requires.by_arp c.record_under.ensures
    ∙ sym (arp_found c.args.key.now c.args.arps.now c.args.ndps.now kind c.requires)

pub returns-in-V6 : goal.returns-in-V6
returns-in-V6 c =
    let kind : family c.args.key.now.ip ≡ 1 = ap family c.in-V6.is in
    looked_up ndp_numbering c.args.key.now c.neighbor_key-in-V6.result c.args.ndps.now c.args.ndps.now (option_copied c.record_under-in-V6.result) (c.neighbor_key-in-V6.ensures.ndp kind) c.neighbor_key-in-V6.ensures.key refl c.requires.by_ndp c.record_under-in-V6.ensures
    ∙ sym (ndp_found c.args.key.now c.args.arps.now c.args.ndps.now kind c.requires)
