use Rattle.std.proofs.Common.{rules, ◌∙◌, sym, subst}
use Rattle.keyed.specs.Prefix.{IsPrefix}
use Rattle.turn_book.specs.Lists.{strip}
use Rattle.turn_book.proofs.KeepsCounts.{settles_round}
use Rattle.turn_book.proofs.steps.count_told_round.Goals as goal

pub fetch_add-requires : goal.fetch_add-requires
fetch_add-requires g c =
    let next = c.requires.next in (
      search rules,
      search rules,
      settles_round _ _ _ _ _ _ _ next.0 c.args.k c.requires.unspent c.requires.turn c.requires.chip_turn (c.requires.told ∙ next.1) (sym next.2)
          (subst (λ l. IsPrefix (strip g.V.Settles.subs l) c.args.seat.now.me.0.seen) (sym c.requires.told) c.requires.settled),
    )
