use Rattle.std.proofs.Common.{◌≡◌, ◌<◌, Option, Some, length, set, sym, ap, ◌∙◌, subst, arith}
use Rattle.std.specs.Option.{option_map}
use Rattle.std.specs.Ordering.{nat_cmp}
use Rattle.std.proofs.lemmas.List.{length-set}
use Rattle.keyed.specs.Keyed.{at, put}
use Rattle.keyed.specs.KeyOrders.{nat_order}
use Rattle.keyed.specs.Named.{key_of, AreDistinct}
use Rattle.keyed.specs.NamedLaws.{distinct-put_again}
use Rattle.keyed.specs.ValueLaws.{length-put_there}
use Rattle.chip_core.specs.Taken.{AreFree, taken}
use Rattle.chip_core.proofs.RawLaws.{none_there}
use Rattle.chip_core.proofs.SlotLaws.{finds-set}
use Rattle.chip_core.proofs.TakenLaws.{are_slotted, free_set, mapped_there, read-taken, taken-set, taken_within}
use Rattle.chip_core.proofs.slots.SlotTable.set.Given as given
use Rattle.chip_core.proofs.slots.SlotTable.set.Goals as goal

same_name : {N V : Type 0} (name : V → N) (o : Option V) (v w : V) → option_map name o ≡ Some (name v) → o ≡ Some w → name v ≡ name w
same_name name o v w named is = let both : Some (name w) ≡ Some (name v) = rw is at named in cc

pub index_mut-requires : goal.index_mut-requires
index_mut-requires g c =
    let named = ap (λ v. option_map g.V.Named.name (at nat_cmp c.args.slot v.rows)) c.self.view_is ∙ c.requires in
    let rows = taken 0 c.self.inside.slots.items in
    omega (arith, taken_within c.args.slot c.self.inside.slots.items (mapped_there g.V.Named.name (at nat_cmp c.args.slot rows) (g.V.Named.name c.args.value) named))

pub unreachable-requires : goal.unreachable-requires
unreachable-requires g c =
    let slots = c.self.inside.slots.items in
    let is_named = ap (λ v. option_map g.V.Named.name (at nat_cmp c.args.slot v.rows)) c.self.view_is ∙ c.requires in
    let held = mapped_there g.V.Named.name (at nat_cmp c.args.slot (taken 0 slots)) (g.V.Named.name c.args.value) is_named in
    let read = read-taken c.args.slot slots c.index_mut.result.now (taken_within c.args.slot slots held) c.index_mut.ensures.value in
    none_there (at nat_cmp c.args.slot (taken 0 slots)) held (read ∙ sym c.replace.ensures.value ∙ c.in-None.is)

named : (g : given.Over) (c : goal.In-Some g) → option_map g.V.Named.name (at nat_cmp c.args.slot (taken 0 c.self.inside.slots.items)) ≡ Some (g.V.Named.name c.args.value)
named g c = ap (λ v. option_map g.V.Named.name (at nat_cmp c.args.slot v.rows)) c.self.view_is ∙ c.requires

within : (g : given.Over) (c : goal.In-Some g) → c.args.slot < length c.self.inside.slots.items
within g c = taken_within c.args.slot c.self.inside.slots.items (mapped_there g.V.Named.name (at nat_cmp c.args.slot (taken 0 c.self.inside.slots.items)) (g.V.Named.name c.args.value) (named g c))

there : (g : given.Over) (c : goal.In-Some g) → at nat_cmp c.args.slot (taken 0 c.self.inside.slots.items) ≡ Some c.in-Some.old
there g c = read-taken c.args.slot c.self.inside.slots.items c.index_mut.result.now (within g c) c.index_mut.ensures.value ∙ sym c.replace.ensures.value ∙ c.in-Some.is

rows : (g : given.Over) (c : goal.In-Some g) → taken 0 (set c.self.inside.slots.items c.args.slot c.replace.new.dest) ≡ put nat_cmp c.args.slot c.args.value (taken 0 c.self.inside.slots.items)
rows g c = ap (λ o. taken 0 (set c.self.inside.slots.items c.args.slot o)) c.replace.ensures.after ∙ taken-set c.args.slot c.args.value c.self.inside.slots.items (within g c)

pub invariant_of-self : goal.invariant_of-self
invariant_of-self g c =
    let cmp = g.N.Ord.cmp in
    let name = g.V.Named.name in
    let order = g.met.V.Named.order in
    let slots = c.self.inside.slots.items in
    let was = c.self.invariant in
    let v = c.args.value in
    let names = same_name name (at nat_cmp c.args.slot (taken 0 slots)) v c.in-Some.old (named g c) (there g c) in
    record {
      gaps = subst (λ o. AreFree (set slots c.args.slot o) c.self.inside.free.rows) (sym c.replace.ensures.after) (free_set slots c.self.inside.free.rows was.gaps c.args.slot v c.in-Some.old (there g c));
      found = λ n. finds-set cmp order name c.args.slot v c.in-Some.old c.self.inside.index.rows (taken 0 slots) was.found (there g c) names n ∙ ap (λ l. key_of cmp name n l) (sym (rows g c));
      distinct = subst (λ l. AreDistinct cmp name l) (sym (rows g c)) (distinct-put_again nat_cmp nat_order cmp order name c.args.slot v c.in-Some.old (taken 0 slots) (there g c) names was.distinct);
      ascends = was.ascends;
      same_count = was.same_count ∙ sym (ap length (rows g c) ∙ length-put_there nat_cmp c.args.slot c.in-Some.old v (taken 0 slots) (there g c));
      room = length-set slots c.args.slot c.replace.new.dest ∙ was.room;
      same_room = was.same_room;
      small = was.small;
    }

pub returns-clause-old : goal.returns-clause-old
returns-clause-old g c = sym (ap (λ v. at nat_cmp c.args.slot v.rows) c.self.view_is) ∙ there g c

pub returns-clause-rows : goal.returns-clause-rows
returns-clause-rows g c = rows g c ∙ ap (λ v. put nat_cmp c.args.slot c.args.value v.rows) c.self.view_is

pub returns-clause-slotted : goal.returns-clause-slotted
returns-clause-slotted g c = are_slotted g.N.Ord.cmp g.V.Named.name (set c.self.inside.slots.items c.args.slot c.replace.new.dest) c.self.inside.free.rows c.self.inside.index.rows c.self.inside.free.capacity c.self.inside.index.capacity (invariant_of-self g c)
