use Rattle.std.proofs.Common.{inl, refl, sym, ◌∙◌}
use Rattle.state_keys.specs.PartKeys.{rib_of}
use Rattle.state_scan.specs.Listed.{listed}
use Rattle.fib_refresh.proofs.ScanLaws.{scan-done}
use Rattle.fib_refresh.proofs.affected.scan_next.Goals as goal

pub returns-then-is_key_of : goal.returns-then-is_key_of
returns-then-is_key_of c = inl (sym c.is_key_of.ensures ∙ c.if-is_key_of.true, refl)

pub returns : goal.returns
returns c = scan-done c.scan_vrf.result (listed rib_of c.args.routes.now.entries) c.args.keys.now c.args.last.now c.args.vrf c.args.level.now c.scan_vrf.new.level c.scan_vrf.ensures
