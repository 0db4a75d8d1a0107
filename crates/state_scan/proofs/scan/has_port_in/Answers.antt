use Rattle.std.proofs.Common.{ℕ, ◌==◌, sym, ◌∙◌}
use Rattle.switch_model.specs.declared.record.PortRec.{PortRec}
use Rattle.state_keys.specs.PartKeys.{port_of}
use Rattle.state_scan.proofs.Listing.{any_listed}
use Rattle.state_scan.proofs.scan.has_port_in.Goals as goal

pub returns : goal.returns
returns c = c.some_port_in.ensures ∙ sym (any_listed port_of (λ (e : ℕ × PortRec). e.1.vlan == c.args.vlan) c.args.ports.now.entries)
