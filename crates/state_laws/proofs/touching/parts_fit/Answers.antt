use Rattle.switch_state.proofs.OnPaths.{same_fit}
use Rattle.state_laws.proofs.touching.parts_fit.Goals as goal

pub returns : goal.returns
returns c = record {
  vlans = same_fit c.vlans.ensures.map c.paths_fit.ensures;
  ports = same_fit c.ports.ensures.map c.paths_fit-2.ensures;
  intfs = same_fit c.intfs.ensures.map c.paths_fit-3.ensures;
  macs = same_fit c.macs.ensures.map c.paths_fit-4.ensures;
  arps = same_fit c.arps.ensures.map c.paths_fit-5.ensures;
  ndps = same_fit c.ndps.ensures.map c.paths_fit-6.ensures;
  routes = same_fit c.routes.ensures.map c.paths_fit-7.ensures;
}
