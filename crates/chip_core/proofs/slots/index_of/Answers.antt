use Rattle.std.proofs.Common.{◌≡◌, ◌≤◌, ℕ, Ok, length, sym, ap, ◌∙◌, subst, arith}
use Rattle.std.specs.List.Sorted.{IsPermutation}
use Rattle.std.proofs.lemmas.List.{length-map}
use Rattle.keyed.specs.Keyed.{Ascends}
use Rattle.chip_core.proofs.IndexLaws.{pairs, index_ascends, index_distinct, index_finds}
use Rattle.chip_core.proofs.slots.index_of.Given as given
use Rattle.chip_core.proofs.slots.index_of.Goals as goal

rows : (g : given.Over) (c : goal.In-Some g) → c.in-Some.index.rows ≡ c.sort_unstable.new.self.items
rows g c = rw c.in-Some.is at c.in_ok-index.ensures.rows

ascends : (g : given.Over) (c : goal.In-Some g) → Ascends g.N.Ord.cmp c.in-Some.index.rows
ascends g c = let sorted = rw c.in-Some.is at c.in_ok-index.ensures.sorted in sorted.ascends

moved : (g : given.Over) (c : goal.In-Some g) → IsPermutation (pairs g.N.Ord.cmp g.met.V.Named.order g.V.Named.name c.args.rows.now) c.in-Some.index.rows
moved g c = subst (λ l. IsPermutation (pairs g.N.Ord.cmp g.met.V.Named.order g.V.Named.name c.args.rows.now) l) (sym (rows g c)) (subst (λ l. IsPermutation l c.sort_unstable.new.self.items) c.in_ok-names.ensures c.sort_unstable.ensures.permutation)

pub returns-in-Some-clause-found : goal.returns-in-Some-clause-found
returns-in-Some-clause-found g c = index_finds g.N.Ord.cmp g.met.V.Named.order g.V.Named.name c.args.rows.now c.in-Some.index.rows (moved g c) (ascends g c)

pub returns-in-Some-clause-distinct : goal.returns-in-Some-clause-distinct
returns-in-Some-clause-distinct g c = index_distinct g.N.Ord.cmp g.met.V.Named.order g.V.Named.name c.args.rows.now c.in-Some.index.rows (moved g c) (ascends g c)

pub returns-in-Some-clause-count : goal.returns-in-Some-clause-count
returns-in-Some-clause-count g c =
    let entry : ℕ × g.row.V.Denot → g.row.N.Denot × ℕ = λ row. (g.V.Named.name row.1, row.0) in
    omega (arith, ap length (rows g c), c.sort_unstable.ensures.len, ap length c.in_ok-names.ensures, length-map c.args.rows.now entry, c.in_ok-names.names.ok.0, c.sort_unstable.new.self.ok.0)

pub returns-in-None-clause-none : goal.returns-in-None-clause-none
returns-in-None-clause-none g c is distinct =
    let cmp = g.N.Ord.cmp in
    let name = g.V.Named.name in
    let list = c.args.rows.now in
    let sorted = c.sort_unstable.new.self.items in
    let moved_to = subst (λ l. IsPermutation l sorted) c.in_ok-names.ensures c.sort_unstable.ensures.permutation in
    let entry : ℕ × g.row.V.Denot → g.row.N.Denot × ℕ = λ row. (name row.1, row.0) in
    let as_many : length sorted ≤ c.args.capacity = omega (arith, c.sort_unstable.ensures.len, ap length c.in_ok-names.ensures, length-map list entry, c.requires, c.in_ok-names.names.ok.0, c.sort_unstable.new.self.ok.0) in
    let none = c.in_ok-index.was ∙ ap Ok c.in-None.is in
    c.of.ensures.none none (record { ascends = index_ascends cmp g.met.V.Named.order name list sorted moved_to c.sort_unstable.ensures.sorted distinct; fits = as_many })
