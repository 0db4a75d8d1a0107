use Rattle.std.proofs.Common.{ap}
use Rattle.switch_state.specs.Edit.{EditView}
use Rattle.state_check.proofs.parts.cut.Goals as goal

pub returns-in-Vlans-clause-base : goal.returns-in-Vlans-clause-base
returns-in-Vlans-clause-base c = ap (λ (e : EditView). e.base) c.cut_vlan.ensures.others

pub returns-in-Vlans-clause-version : goal.returns-in-Vlans-clause-version
returns-in-Vlans-clause-version c = ap (λ (e : EditView). e.state.version) c.cut_vlan.ensures.others

pub returns-in-Ports-clause-base : goal.returns-in-Ports-clause-base
returns-in-Ports-clause-base c = ap (λ (e : EditView). e.base) c.cut_port.ensures.others

pub returns-in-Ports-clause-version : goal.returns-in-Ports-clause-version
returns-in-Ports-clause-version c = ap (λ (e : EditView). e.state.version) c.cut_port.ensures.others

pub returns-in-Intfs-clause-base : goal.returns-in-Intfs-clause-base
returns-in-Intfs-clause-base c = ap (λ (e : EditView). e.base) c.cut_intf.ensures.others

pub returns-in-Intfs-clause-version : goal.returns-in-Intfs-clause-version
returns-in-Intfs-clause-version c = ap (λ (e : EditView). e.state.version) c.cut_intf.ensures.others

pub returns-in-Macs-clause-base : goal.returns-in-Macs-clause-base
returns-in-Macs-clause-base c = ap (λ (e : EditView). e.base) c.cut_mac.ensures.others

pub returns-in-Macs-clause-version : goal.returns-in-Macs-clause-version
returns-in-Macs-clause-version c = ap (λ (e : EditView). e.state.version) c.cut_mac.ensures.others

pub returns-in-Arps-clause-base : goal.returns-in-Arps-clause-base
returns-in-Arps-clause-base c = ap (λ (e : EditView). e.base) c.cut_arp.ensures.others

pub returns-in-Arps-clause-version : goal.returns-in-Arps-clause-version
returns-in-Arps-clause-version c = ap (λ (e : EditView). e.state.version) c.cut_arp.ensures.others

pub returns-in-Ndps-clause-base : goal.returns-in-Ndps-clause-base
returns-in-Ndps-clause-base c = ap (λ (e : EditView). e.base) c.cut_ndp.ensures.others

pub returns-in-Ndps-clause-version : goal.returns-in-Ndps-clause-version
returns-in-Ndps-clause-version c = ap (λ (e : EditView). e.state.version) c.cut_ndp.ensures.others

pub returns-in-Routes-clause-base : goal.returns-in-Routes-clause-base
returns-in-Routes-clause-base c = ap (λ (e : EditView). e.base) c.cut_route.ensures.others

pub returns-in-Routes-clause-version : goal.returns-in-Routes-clause-version
returns-in-Routes-clause-version c = ap (λ (e : EditView). e.state.version) c.cut_route.ensures.others

pub returns-in-Fibs-clause-base : goal.returns-in-Fibs-clause-base
returns-in-Fibs-clause-base c = ap (λ (e : EditView). e.base) c.cut_fib.ensures.others

pub returns-in-Fibs-clause-version : goal.returns-in-Fibs-clause-version
returns-in-Fibs-clause-version c = ap (λ (e : EditView). e.state.version) c.cut_fib.ensures.others
