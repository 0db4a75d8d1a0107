use Rattle.std.proofs.Common.{rules, arith, ◌≡◌, ◌<◌, [], ◌∷◌, map, Contains, sym, ◌∙◌, subst}
use mathlib.Core.Logic.{dite}
use native.Mathlib.Decide.{ℕ_discrete}
use Rattle.turn_book_client.proofs.tests.close_two.Goals as goal

pub close-requires-clause-all : goal.close-requires-clause-all
close-requires-clause-all c i lt =
    let items : c.push-2.new.self.items ≡ c.args.two ∷ c.args.one ∷ [] = search rules in
    let two : i < 2 = (let e = c.requires.callers in omega arith) in
    subst (λ l. Contains (map (λ p. p.number) l) i) (sym items) (dite (ℕ_discrete i 0)
    (λ (e : i ≡ 0). (1, omega arith, c.requires.one_number ∙ sym e))
    (λ ne. let last : i ≡ 1 = omega arith in (0, omega arith, c.requires.two_number ∙ sym last)))
