use Rattle.state_keys.specs.PartKeys.{IsNdpNumber, ndp_of}
use Rattle.row_sources.proofs.GatherLaws.{read_end, read_more, read_number}
use Rattle.row_sources.proofs.RowLaws.{hosts_first, near_host}
use Rattle.row_sources.proofs.host.add_ndps.Goals as goal

pub loop-key-init : goal.loop-key-init
loop-key-init c = hosts_first ndp_of IsNdpNumber c.args.keys.now.items c.into_iter-key-iterator.result c.args.ndps.now.entries c.into_iter-key-iterator.ensures.into_iter_gives c.requires

pub add_ndp-requires : goal.add_ndp-requires
add_ndp-requires c = read_number (near_host ndp_of) IsNdpNumber _ (c.in-Some.key.now, c.in-Some.field-0-1.now) c.loop-key.key-iterator c.next.new.self _ c.in-Some.ensures.steps c.loop-key.invariant

pub loop-key-preserved : goal.loop-key-preserved
loop-key-preserved c = read_more (near_host ndp_of) IsNdpNumber _ _ (c.in-Some.key.now, c.in-Some.field-0-1.now) c.loop-key.key-iterator c.next.new.self _ c.in-Some.ensures.steps c.loop-key.invariant c.in_ok-add_ndp.ensures

pub returns : goal.returns
returns c = read_end (near_host ndp_of) IsNdpNumber _ c.loop-key.key-iterator _ c.in-None.ensures.steps.0 c.loop-key.invariant
