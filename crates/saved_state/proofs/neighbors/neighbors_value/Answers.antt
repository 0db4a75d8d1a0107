use Rattle.std.proofs.Common.{sym, subst, ◌∙◌}
use Rattle.keyed.specs.Keyed.{Ascends}
use Rattle.switch_model.specs.StateKeys.{neighbor_cmp}
use Rattle.state_scan.proofs.Neighbors.{arps_ascend}
use Rattle.saved_state.specs.Merging.{AreOfFamily}
use Rattle.saved_state.proofs.Merges.{arps_of_family, ndps_of_family}
use Rattle.saved_state.proofs.neighbors.neighbors_value.Goals as goal

pub arp_rows-requires : goal.arp_rows-requires
arp_rows-requires c = c.requires.by_arp

pub ndp_rows-requires : goal.ndp_rows-requires
ndp_rows-requires c = c.requires.by_ndp

pub merged-requires-clause-ascending : goal.merged-requires-clause-ascending
merged-requires-clause-ascending c = subst (Ascends neighbor_cmp) (sym (c.as_slice.ensures.value ∙ c.in_ok-arps.ensures)) (arps_ascend c.args.arps.now c.requires.by_arp c.requires.ascends)

pub merged-requires-clause-arps : goal.merged-requires-clause-arps
merged-requires-clause-arps c = subst (AreOfFamily 0) (sym (c.as_slice.ensures.value ∙ c.in_ok-arps.ensures)) (arps_of_family c.args.arps.now.entries)

pub merged-requires-clause-ndps : goal.merged-requires-clause-ndps
merged-requires-clause-ndps c = subst (AreOfFamily 1) (sym (c.as_slice-2.ensures.value ∙ c.in_ok-ndps.ensures)) (ndps_of_family c.args.ndps.now.entries)
