use Rattle.std.proofs.Common.{rules, arith, ◌≡◌, ℕ, suc, ◌+◌, List, [], ◌∷◌, ◌++◌, length, length-append, ap, sym, ◌∙◌, false}
use Rattle.turn_book.specs.Passes.{Book, Pass, new_pass, new_passes}
use Rattle.turn_book.specs.Rule.{newcomer}
use Rattle.turn_book.specs.Steps.{split_off, pass_of}
use Rattle.turn_book.proofs.Closes.{new_passes_more}
use Rattle.turn_book.proofs.book.TurnBook.open.Goals as goal

pub loop-i-preserved : goal.loop-i-preserved
loop-i-preserved g c =
    let inv = c.loop-i.invariant in
    let id = c.next.new.maker.table_id in
    let base : g.row.V-Ground.Denot = g.V.Settles.opening c.args.desk in
    let B : Book g.row.V-Ground.Denot = record { id = id; callers = c.args.callers; opening = base } in
    let old : List (Pass g.row.V-Ground.Denot g.row.V-Sub.Denot g.row.V-Round.Denot) = c.loop-i.passes.items in
    let n : ℕ = length old in
    let inside = ap (λ b. b.id) c.book.view_is in
    let same : c.loop-i.first.table_id ≡ id = inv.table ∙ (inside ∙ sym c.next.ensures.book) in
    let items : c.push.new.self.items ≡ old ++ c.next.result ∷ [] = search rules in
    let count : n + 1 ≡ c.loop-i.i = inv.count in
    let place : c.loop-i.i ≡ 1 + n = omega arith in
    let pass : c.next.result ≡ new_pass B (1 + n) =
    c.next.ensures.pass ∙ (ap (λ t. pass_of t (newcomer c.loop-i.first.me.0.opening c.loop-i.first.me.0.callers c.loop-i.first.me.0.made false 0)) (sym c.next.ensures.book)
    ∙ (ap (λ m. pass_of id (newcomer m.0.opening m.0.callers m.0.made false 0)) inv.maker ∙ ap (λ (i : ℕ). new_pass B i) place)) in
    let row : old ≡ new_passes B 1 n = inv.row ∙ ap (λ t. new_passes (record { id = t; callers = c.args.callers; opening = base }) 1 n) same in
    let long : length c.push.new.self.items ≡ suc n = ap length items ∙ (let h : length (old ++ c.next.result ∷ []) ≡ suc n = omega (arith, length-append old (c.next.result ∷ [])) in h) in
    record {
      table = c.next.ensures.book ∙ sym inside;
      maker = c.next.ensures.maker ∙ ap (λ m. (split_off m.0, m.1)) inv.maker;
      count = (let h = long in omega arith);
      row = items ∙ ((λ i. row i ++ pass i ∷ []) ∙ (sym (new_passes_more B 1 n) ∙ ap (new_passes B 1) (sym long)));
    }

pub returns-clause-passes : goal.returns-clause-passes
returns-clause-passes g c =
    let inv = c.loop-i.invariant in
    let base : g.row.V-Ground.Denot = g.V.Settles.opening c.args.desk in
    let old : List (Pass g.row.V-Ground.Denot g.row.V-Sub.Denot g.row.V-Round.Denot) = c.loop-i.passes.items in
    let n : ℕ = length old in
    let items : c.insert.new.self.items ≡ c.first.result ∷ old = search rules in
    let count : n + 1 ≡ c.loop-i.i = inv.count in
    let last : c.loop-i.i ≡ c.args.callers = omega arith in
    let many : suc n ≡ c.args.callers = omega arith in
    let B : Book g.row.V-Ground.Denot = record { id = c.loop-i.first.table_id; callers = c.args.callers; opening = base } in
    let first : c.first.result ≡ new_pass B 0 = c.first.ensures ∙ ap (λ m. pass_of c.loop-i.first.table_id m.0) inv.maker in
    let book : B ≡ c.in_ok-book.book =
    (λ i. record { id = (inv.table ∙ ap (λ b. b.id) c.book.view_is) i; callers = (sym c.in_ok-book.ensures.callers) i; opening = (sym c.in_ok-book.ensures.opening) i }) in
    items ∙ ((λ i. first i ∷ inv.row i) ∙ (ap (new_passes B 0) many ∙ ap (λ b. new_passes b 0 c.args.callers) book))
