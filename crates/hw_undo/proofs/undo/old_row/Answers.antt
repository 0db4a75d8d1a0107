use Rattle.std.proofs.Common.{◌≡◌, ◌∙◌, Bool, List, Option, Some, ap, subst, sym}
use Rattle.std.proofs.lemmas.Option.{slice_get-get_or, slice_get_within}
use Rattle.net_types.specs.declared.table.HostKey.{HostKey}
use Rattle.chip_core.specs.ChangeLists.{Change}
use Rattle.chip_core.specs.ListLaws.{some-is}
use Rattle.chip_core.specs.MemberSlots.{AreSlotsOf, row-slots}
use Rattle.hw_undo.proofs.Undoing.{old-told}
use Rattle.hw_undo.proofs.undo.old_row.Goals as goal

pub returns : goal.returns
returns g c =
    let old = c.requires in
    let raw = g.C.HwSwitch.raw c.args.chip.now in
    let sound = g.met.C.HwSwitch.sound c.args.chip.now in
    let change : Change (List HostKey) (List Bool) = c.index-groups-place.result in
    let within = slice_get_within c.args.groups.now c.args.place _ old.listed.is in
    let is : change ≡ (old.keys, Some old.marks, old.listed.new) = some-is (ap Some c.index-groups-place.is ∙ sym (slice_get-get_or c.args.groups.now c.args.place change within) ∙ old.listed.is) in
    let keys : c.as_slice.result.now ≡ old.keys = c.as_slice.ensures ∙ c.deref.ensures ∙ ap (λ (x : Change (List HostKey) (List Bool)). x.0) is in
    let marks : c.in-Some.marks ≡ old.marks = some-is (sym c.in-Some.is ∙ ap (λ (x : Change (List HostKey) (List Bool)). x.1) is) in
    let own : AreSlotsOf raw.host c.slots_of-slots.result old.keys = subst (AreSlotsOf raw.host c.slots_of-slots.result) keys c.slots_of-slots.ensures in
    old-told c.args.groups.now c.args.place raw c.row_of.result old sound.rows
    (row-slots raw.host c.row_of.result _ _ old.keys c.row_of.ensures.key c.as_slice-in-Some.ensures.value own)
    (c.row_of.ensures.marks ∙ c.as_slice-in-Some-2.ensures ∙ marks)
