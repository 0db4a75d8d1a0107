use Rattle.subnet_index.specs.SubnetList.{subnets_in}
use Rattle.rib_lookup.proofs.CodeLaws.{connected-none, connected-other, connected-found}
use Rattle.rib_lookup.proofs.RouteTable.{other_vrf, other_prefix, same_both}
use Rattle.rib_lookup.specs.Tables.{key_of_subnet}
use Rattle.rib_lookup.proofs.connected.connected_to.Goals as goal

pub returns-in_default : goal.returns-in_default
returns-in_default c = connected-none c.args.tables.now (subnets_in c.args.tables.now.intfs) (record { vrf = c.args.vrf; prefix = c.args.prefix.now }) c.shape.ensures.intfs c.shape.ensures.subnets c.with_intf.result c.with_intf.ensures c.in_default.ensures

pub returns-then-ne : goal.returns-then-ne
returns-then-ne c = connected-other c.args.tables.now (subnets_in c.args.tables.now.intfs) (record { vrf = c.args.vrf; prefix = c.args.prefix.now }) c.shape.ensures.intfs c.shape.ensures.subnets c.with_intf.result c.with_intf.ensures c.in-Some.subnet c.in-Some.ensures
    (other_vrf (record { vrf = c.args.vrf; prefix = c.args.prefix.now }) (key_of_subnet c.in-Some.subnet) c.ne.result c.ne.ensures c.if-ne.true)

pub returns-then-not-is_eq : goal.returns-then-not-is_eq
returns-then-not-is_eq c = connected-other c.args.tables.now (subnets_in c.args.tables.now.intfs) (record { vrf = c.args.vrf; prefix = c.args.prefix.now }) c.shape.ensures.intfs c.shape.ensures.subnets c.with_intf.result c.with_intf.ensures c.in-Some.subnet c.in-Some.ensures
    (other_prefix (record { vrf = c.args.vrf; prefix = c.args.prefix.now }) (key_of_subnet c.in-Some.subnet) c.compare_prefixes.result c.is_eq.result c.compare_prefixes.ensures c.is_eq.ensures c.if-not-is_eq.true)

pub returns : goal.returns
returns c = connected-found c.args.tables.now (subnets_in c.args.tables.now.intfs) (record { vrf = c.args.vrf; prefix = c.args.prefix.now }) c.shape.ensures.intfs c.shape.ensures.subnets c.with_intf.result c.with_intf.ensures c.in-Some.subnet c.in-Some.ensures
    (same_both (record { vrf = c.args.vrf; prefix = c.args.prefix.now }) (key_of_subnet c.in-Some.subnet) c.ne.result c.compare_prefixes.result c.is_eq.result c.ne.ensures c.if-ne.false c.compare_prefixes.ensures c.is_eq.ensures c.if-not-is_eq.false)
