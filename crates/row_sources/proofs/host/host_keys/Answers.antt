use Rattle.row_sources.proofs.HostLaws.{keys_are, met_are}
use Rattle.row_sources.proofs.host.host_keys.Goals as goal

pub add_arps-requires : goal.add_arps-requires
add_arps-requires c = c.arps.ensures.part.numbers

pub add_ndps-requires : goal.add_ndps-requires
add_ndps-requires c = c.ndps.ensures.part.numbers

pub returns : goal.returns
returns c = keys_are c.args.state.now c.requires.fib c.arps.result.now c.ndps.result.now c.add_forwarded.new.keys.items c.arps.ensures.map c.arps.ensures.part.numbers c.arps.ensures.part.ascends c.ndps.ensures.map c.ndps.ensures.part.numbers c.ndps.ensures.part.ascends
    (met_are c.args.state.now c.arps.result.now c.ndps.result.now c.fibs.result.now c.new-keys.result.items c.add_arps.new.keys.items c.add_ndps.new.keys.items c.add_forwarded.new.keys.items c.new-keys.ensures.items c.arps.ensures.map c.in_ok-add_arps.ensures c.ndps.ensures.map c.in_ok-add_ndps.ensures c.fibs.ensures.map c.in_ok-add_forwarded.ensures)
