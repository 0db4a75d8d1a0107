use Rattle.std.proofs.Common.{ℕ, All, IsSome, List, refl, subst, sym}
use Rattle.std.specs.Ordering.{nat_cmp}
use Rattle.std.proofs.lemmas.List.{take_all}
use Rattle.keyed.specs.Keyed.{at}
use Rattle.net_types.specs.declared.group.Member.{Member}
use Rattle.chip_core.specs.Slots.{Groups, host_entries}
use Rattle.chip_core.specs.Tables.{MembersHeld}
use Rattle.chip_core.proofs.Members.{all_at, all_more}
use Rattle.chip_core.proofs.Outcomes.{never, refused}
use Rattle.chip_core.proofs.shape.are_groups_held.Goals as goal

pub returns-then-not-are_held : goal.returns-then-not-are_held
returns-then-not-are_held c =
    let Held : List Member → Type 0 = λ members. All (λ member. IsSome (at nat_cmp member.host (host_entries c.args.hosts.now))) members in
    ((λ h. never h), (λ held. absurd (refused c.are_held.result c.are_held.ensures.1 c.if-not-are_held.true (subst Held (sym c.as_slice.ensures) (all_at (λ (group : ℕ × List Member). Held group.1) c.args.groups.now c.loop-group.group-index c.group-item.result c.loop-group-test.true c.group-item.is held)))))

pub loop-group-preserved : goal.loop-group-preserved
loop-group-preserved c =
    let Held : List Member → Type 0 = λ members. All (λ member. IsSome (at nat_cmp member.host (host_entries c.args.hosts.now))) members in
    let held = c.are_held.ensures.0 c.if-not-are_held.false in
    all_more (λ (group : ℕ × List Member). Held group.1) c.args.groups.now c.loop-group.group-index c.group-item.result c.loop-group-test.true c.group-item.is (subst Held c.as_slice.ensures held) c.loop-group.invariant

pub returns : goal.returns
returns c = ((λ h. subst (λ (l : Groups). MembersHeld (host_entries c.args.hosts.now) l) (take_all c.loop-group.group-index c.args.groups.now c.loop-group-test.false) c.loop-group.invariant), (λ h. refl))
